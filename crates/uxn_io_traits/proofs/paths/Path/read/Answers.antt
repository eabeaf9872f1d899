use Rattle.std.proofs.Common.{true, false, Ok, refl, sym, ap, ◌∙◌}
use Rattle.uxn_io_traits.proofs.PathLemmas.{path_of-tests, kept, kept_text, fits_from_short}
use Rattle.uxn_io_traits.proofs.paths.Path.read.Goals as goal

pub returns-then-is_empty : goal.returns-then-is_empty
returns-then-is_empty c =
    sym (path_of-tests c.args.text.now true _ _ (sym c.if-is_empty.true ∙ c.is_empty.ensures) refl refl)

pub returns-then-not-is_well_formed : goal.returns-then-not-is_well_formed
returns-then-not-is_well_formed c =
    sym (path_of-tests c.args.text.now false false _ (sym c.if-is_empty.false ∙ c.is_empty.ensures) (sym c.if-not-is_well_formed.true ∙ c.is_well_formed.ensures) refl)

pub returns-then-is_too_long : goal.returns-then-is_too_long
returns-then-is_too_long c =
    sym (path_of-tests c.args.text.now false true true (sym c.if-is_empty.false ∙ c.is_empty.ensures) (sym c.if-not-is_well_formed.false ∙ c.is_well_formed.ensures) (sym c.if-is_too_long.true ∙ c.is_too_long.ensures))

pub invariant_of-result : goal.invariant_of-result
invariant_of-result c =
    kept c.args.text.now _ (fits_from_short c.args.text.now (sym c.if-is_too_long.false ∙ c.is_too_long.ensures)) c.padded.ensures
    (path_of-tests c.args.text.now false true false (sym c.if-is_empty.false ∙ c.is_empty.ensures) (sym c.if-not-is_well_formed.false ∙ c.is_well_formed.ensures) (sym c.if-is_too_long.false ∙ c.is_too_long.ensures))

pub returns : goal.returns
returns c =
    ap (λ z. Ok z) (kept_text c.args.text.now _ _ c.padded.ensures)
    ∙ sym (path_of-tests c.args.text.now false true false (sym c.if-is_empty.false ∙ c.is_empty.ensures) (sym c.if-not-is_well_formed.false ∙ c.is_well_formed.ensures) (sym c.if-is_too_long.false ∙ c.is_too_long.ensures))

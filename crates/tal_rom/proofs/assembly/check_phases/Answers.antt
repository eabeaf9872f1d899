use Rattle.tal_rom.proofs.Common.{refl, ◌∙◌, List, err_from_is_err_and, Vec, Expanded, Layout}
use Rattle.tal_rom.proofs.AssemblyLemmas.{stopped, expansion_first, places_first, references_first}
use Rattle.tal_rom.proofs.assembly.check_phases.Goals as goal

pub returns-in_err-expanded : goal.returns-in_err-expanded
returns-in_err-expanded c =
    let p = err_from_is_err_and c.from_residual.result c.from_residual.ensures.1 in
    rw (p.1, p.2) (stopped {X = Vec Expanded} {Y = List Expanded} (λ v. v.items) _ c.args.source.now c.in_err-expanded.field-0.0 _
    (expansion_first c.args.source.now c.requires.sound) c.in_err-expanded.ensures.value)

pub returns-in_err-placed : goal.returns-in_err-placed
returns-in_err-placed c =
    let p = err_from_is_err_and c.from_residual-in_err-placed.result c.from_residual-in_err-placed.ensures.1 in
    let expanded = c.in_ok-expanded.ensures.value in
    rw (p.1, p.2) (stopped {X = Layout} {Y = Layout} (λ placed. placed) _ c.args.source.now c.in_err-placed.field-0.0 _
    (places_first c.args.source.now c.requires.sound _ (c.deref.ensures.value ∙ expanded.1) expanded.0) c.in_err-placed.ensures.value)

pub returns : goal.returns
returns c =
    let expanded = c.in_ok-expanded.ensures.value in
    let placed = c.in_ok-placed.ensures.value in
    rw (references_first c.args.source.now c.requires.sound _ (c.deref.ensures.value ∙ expanded.1) expanded.0 _ placed.1 placed.0 _ refl)
    c.check_references.ensures

use Rattle.std.proofs.Common.{Ok, Err, refl, ap, ◌∙◌}
use Rattle.std.proofs.lemmas.Result.{err_from_is_err_and}
use Rattle.uxn_io_traits.specs.AskingLaws.{inquires-ok, inquires-halt}
use Rattle.tal_include.specs.Flat.{Flat, empty_flat}
use Rattle.tal_include.proofs.WalkLemmas.{source-words}
use Rattle.tal_include.proofs.splicing.splice_words.Goals as goal

pub returns-in_err-add_words : goal.returns-in_err-add_words
returns-in_err-add_words g c =
    let p = err_from_is_err_and c.from_residual.result c.from_residual.ensures.1 in
    let is = c.new-flat.ensures ∙ ap (empty_flat c.args.main.now) c.has_include.ensures in
    let view : Unit {0} → Flat = λ _. c.add_words.new.self in
    rw (p.1, p.2)
    (source-words (λ flat. flat) c.args.main.now c.args.source.now c.args.words.now c.new-flat.result _ _ (Err c.in_err-add_words.field-0.0)
    c.requires.faultless c.requires.words is (inquires-halt view (λ flat. flat) _ _ _ c.in_err-add_words.field-0.0 c.in_err-add_words.ensures))

pub returns : goal.returns
returns g c =
    let is = c.new-flat.ensures ∙ ap (empty_flat c.args.main.now) c.has_include.ensures in
    let view : Unit {0} → Flat = λ _. c.add_words.new.self in
    source-words (λ flat. flat) c.args.main.now c.args.source.now c.args.words.now c.new-flat.result _ _ (Ok c.add_words.new.self)
    c.requires.faultless c.requires.words is (inquires-ok view (λ flat. flat) _ _ _ tt c.add_words.new.self refl c.in_ok-add_words.ensures)

use Rattle.std.proofs.Common.{ℕ, List, take, ap, subst, ◌∙◌}
use Rattle.std.specs.Result.{result_ok}
use Rattle.uxn_io_traits.specs.PathText.{path_of, IsLastSlash, HasNoSlashFrom}
use Rattle.uxn_io_traits.proofs.ComponentLemmas.{parent_answer, no_parent}
use Rattle.uxn_io_traits.proofs.paths.Path.parent.Goals as goal

pub returns-in-Some : goal.returns-in-Some
returns-in-Some c =
    let P = λ (text : List ℕ). IsLastSlash text c.in-Some.at in
    c.ok.ensures.value
    ∙ ap result_ok (c.read.ensures ∙ ap (λ (text : List ℕ). path_of (take c.in-Some.at text)) c.bytes-text.ensures.text)
    ∙ parent_answer c.args.self.now c.in-Some.at c.bytes-text.ensures.path (subst P c.bytes-text.ensures.text c.in-Some.ensures)

pub returns-in-None : goal.returns-in-None
returns-in-None c =
    let P = λ (text : List ℕ). HasNoSlashFrom text 0 in
    no_parent c.args.self.now (subst P c.bytes-text.ensures.text c.in-None.ensures)

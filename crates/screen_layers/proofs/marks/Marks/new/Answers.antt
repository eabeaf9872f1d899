use Rattle.std.proofs.Common.{ap, ◌∙◌}
use Rattle.screen_layers.specs.Layers.{mark_at}
use Rattle.screen_layers.proofs.MarkLemmas.{none-marked}
use Rattle.screen_layers.proofs.marks.Marks.new.Goals as goal

pub returns : goal.returns
returns c = λ y. ap (λ marks. mark_at marks y) (c.in_ok-vec.ensures.items_if_clones_equal (λ b e. e)) ∙ none-marked 2047 y

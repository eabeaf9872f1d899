use Rattle.std.proofs.Common.{◌≡◌, true, sym, ap, ◌∙◌, arith}
use Rattle.screen_layers.specs.Layers.{Layers}
use Rattle.screen_layers.proofs.RefreshLemmas.{refreshed-more, refreshed-plain, refreshed-all}
use Rattle.screen_layers.proofs.Screen.refresh.Goals as goal
use Rattle.screen_layers.proofs.Screen.refresh.Goals.{then-is_marked, else-is_marked}

pub loop-y-preserved : goal.loop-y-preserved
loop-y-preserved c =
    elim c.if-is_marked.branch [
      | then-is_marked w ↦ rw (w.self-is, w.count-is) record {
        rows = refreshed-more _ c.loop-y.self w.compose.new.self c.loop-y.y c.loop-y.count true c.loop-y.invariant.rows (sym c.is_marked.ensures.held ∙ w.if-is_marked.true) w.compose.ensures.picture w.compose.ensures.marks;
        end = c.loop-y.invariant.end;
      }
      | else-is_marked w ↦ rw (w.self-is, w.count-is) record {
        rows = refreshed-plain _ c.loop-y.self c.loop-y.y c.loop-y.count c.loop-y.invariant.rows (sym c.is_marked.ensures.held ∙ w.if-is_marked.false);
        end = c.loop-y.invariant.end;
      }
    ]

pub returns : goal.returns
returns c =
    let height : c.self.inside.size.height ≡ c.args.self.now.height = ap (λ (s : Layers). s.height) c.self.view_is in
    refreshed-all _ c.loop-y.self c.loop-y.y c.loop-y.count c.loop-y.invariant.rows (omega arith)

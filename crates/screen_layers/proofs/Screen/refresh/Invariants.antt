use Rattle.std.proofs.Common.{◌≡◌}
use Rattle.screen_layers.proofs.RefreshLemmas.{Refreshed}
use Rattle.screen_layers.proofs.Screen.refresh.Given as goal

abbrev pub invariant-loop-y : goal.invariant-loop-y
invariant-loop-y l =
    record {
      rows : Refreshed l.fn.self l.self l.y l.count;
      end : l.y-end ≡ l.fn.self.height;
    }

use Rattle.std.proofs.Common.{◌≡◌, ◌+◌, ◌/◌, add-one, arith}
use Rattle.screen_layers.specs.Drawings.{tile_of, newest_first}
use Rattle.screen_layers.proofs.ScreenLemmas.{stands-more}
use Rattle.screen_layers.proofs.Screen.sprite.Goals as goal

pub loop-i-init : goal.loop-i-init
unfolding newest_first
loop-i-init c = record { drawn = λ picture stands. stands }

pub loop-i-preserved : goal.loop-i-preserved
unfolding tile_of newest_first
loop-i-preserved c =
    let drawing = tile_of c.args.memory.now c.args.x c.args.y c.args.addr c.args.auto c.args.control in
    record {
      drawn = λ picture stands. rw add-one (stands-more c.loop-i.self c.tile.new.self (drawing c.loop-i.i) (newest_first drawing c.loop-i.i) picture
          (rw (c.place_after.ensures, c.tile_step-step.ensures) at c.tile.ensures) (c.loop-i.invariant.drawn picture stands));
    }

pub returns-clause-drawn : goal.returns-clause-drawn
returns-clause-drawn c = λ picture stands.
    let whole : c.loop-i.i ≡ c.args.auto / 16 + 1 = omega arith in
    rw whole at (c.loop-i.invariant.drawn picture stands)

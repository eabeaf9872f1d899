use Rattle.std.proofs.Common.{arith}
use Rattle.screen_layers.specs.Pictures.{new_picture}
use Rattle.screen_layers.proofs.ScreenLemmas.{cleared-kept, cleared-stands}
use Rattle.screen_layers.proofs.Screen.new.Goals as goal

pub invariant_of-result : goal.invariant_of-result
invariant_of-result c =
    rw (c.in_ok-new.ensures, c.in_ok-new-2.ensures, c.in_ok-new-3.ensures) (omega arith, omega arith, cleared-kept _ _ _ (omega arith))

pub returns : goal.returns
returns c = record {
  picture = rw (c.in_ok-new.ensures, c.in_ok-new-2.ensures, c.in_ok-new-3.ensures)
      (cleared-stands _ _ _ new_picture c.first_size-size.ensures.0 c.first_size-size.ensures.1 c.in_ok-new-4.ensures);
}

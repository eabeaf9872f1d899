use Rattle.screen_layers.specs.Drawings.{tile_of, newest_first}
use Rattle.screen_layers.specs.Layers.{RepresentsPicture}
use Rattle.screen_layers.specs.Pictures.{Picture, with_drawings}
use Rattle.screen_layers.proofs.Screen.sprite.Given as goal

abbrev pub invariant-loop-i : goal.invariant-loop-i
invariant-loop-i l =
    record {
      drawn : (picture : Picture) → RepresentsPicture l.fn.self picture
          → RepresentsPicture l.self (with_drawings (newest_first (tile_of l.memory l.x l.y l.addr l.auto' l.control) l.i) picture);
    }

-- What is observed of the machine where commands are done.
use Rattle.std.specs.Prelude.{ℕ, List}
use Rattle.uxn_debugger.specs.declared.scene.Scene.{Scene}
use Rattle.uxn_debugger.specs.Printing.{MomentView, view}
use Rattle.uxn_debugger.specs.Watching.{held_in, observed_back}

-- the ports of the machine that runs read so
abbrev pub view_in : Scene → List ℕ → MomentView
view_in scene page = observed_back (view scene.core.now page scene.place) (held_in scene.undo.now) scene.back

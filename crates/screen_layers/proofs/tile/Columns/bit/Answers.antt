use Rattle.std.proofs.Common.{if◌then◌else◌, ◌-◌}
use Rattle.screen_layers.proofs.BlendLemmas.{bit-found}
use Rattle.screen_layers.proofs.tile.Columns.bit.Goals as goal

pub returns : goal.returns
returns c = rw (← c.self.view_is) (bit-found c.args.byte (if c.self.inside.flip_x then c.args.column else 7 - c.args.column) _ (c.self.invariant.same c.args.column c.requires))

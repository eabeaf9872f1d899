use Rattle.uxn_undo.proofs.Common.{◌≡◌, ◌-◌, length, most_bytes}
use Rattle.uxn_undo.specs.Kept.{held_of}
use Rattle.uxn_undo.proofs.undo.Undo.make_room.Given as goal

abbrev pub invariant-loop-self : goal.invariant-loop-self
invariant-loop-self l = held_of 65535 (most_bytes - l.count) l.self ≡ held_of 65535 (most_bytes - l.count) l.initial.self

abbrev pub decreases-loop-self : goal.decreases-loop-self
decreases-loop-self l = length l.self

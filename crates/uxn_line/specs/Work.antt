-- The work left of a line, which each move makes less (profile).
use Rattle.std.specs.Prelude.{◌≡◌, ℕ, ◌<◌, ◌+◌, ◌*◌, if◌then◌else◌, Bool, true, false, List, [], ◌∷◌, length}
use Rattle.uxn_line.specs.declared.line.Line.{Line}
use Rattle.uxn_line.specs.declared.member.Member.{Member}

-- how much may still be given to a machine: the bytes of its ring, the work left before it, and one more until all was given
abbrev pub still_given : ℕ → Member → ℕ
still_given before member = length member.ring.items + before + (if member.all_given then 0 else 1)

-- each of these may run a vector of the whole budget
abbrev pub work : ℕ → ℕ → Member → ℕ
work budget before member = still_given before member * (budget + 1) + member.machine.left

-- the work left of all machines from one on, before which so much is left
abbrev pub works : ℕ → ℕ → List Member → ℕ
works budget before [] = 0
works budget before (member ∷ members) = work budget before member + works budget (work budget before member) members

-- before the first machine all that its script still gives is left
abbrev pub work_left : Line → ℕ
work_left line = works line.budget (length line.input_queue) line.members.items

-- a call that moved something made it less, and one that did not left the line as it was
abbrev pub WorksOn : Bool → Line → Line → Type 0
WorksOn true before now = work_left now < work_left before
WorksOn false before now = now ≡ before

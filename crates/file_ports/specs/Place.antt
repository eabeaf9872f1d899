-- Places in what is read.
use Rattle.std.specs.Prelude.{ℕ, ◌-◌, ◌^◌, min, List, take, drop}

-- the last place: a limit of the code
abbrev pub last_place : ℕ
last_place = 2 ^ 64 - 1

-- so many bytes from a place on, or as many as are left before the last place
abbrev pub bytes_on : List ℕ → ℕ → ℕ → List ℕ
bytes_on bytes place count = take (min count (last_place - place)) (drop place bytes)

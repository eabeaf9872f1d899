-- What a plane is by the pixels that it keeps.
use Rattle.std.specs.Prelude.{ℕ, Bool, true, false, List, replicate}

-- the pixels that are kept, once something is drawn; until then this many pixels of 0
abbrev pub with_blank : Bool → List ℕ → ℕ → List ℕ
with_blank true kept count = kept
with_blank false kept count = replicate count 0

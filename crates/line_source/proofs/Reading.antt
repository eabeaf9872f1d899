-- What is left of a source once its reader gave some bytes, or failed.
use Rattle.std.proofs.Common.{◌≡◌, ℕ, ◌-◌, List, [], take, drop, Option, Some, None, arith}
use Rattle.std.specs.Io.KnownBytes.{prepend_known, Consumes, Keeps}

held-more : (old new : Option (List ℕ)) (held bytes : List ℕ) → held ≡ [] → Consumes old new bytes
    → Consumes (prepend_known held old) (prepend_known bytes new) []
held-more None new held bytes none consumes = tt
held-more (Some left) None held bytes none consumes = absurd consumes
held-more (Some left) (Some rest) held bytes none consumes = rw none consumes

-- these bytes were read into a chunk, and are all held
pub refilled : (old new : Option (List ℕ)) (held items read : List ℕ) (count : ℕ) → held ≡ [] → items ≡ read
    → Consumes old new (take count read) → Consumes (prepend_known held old) (prepend_known (take (count - 0) (drop 0 items)) new) []
refilled old new held items read count none is consumes =
    let same : count - 0 ≡ count = omega arith in
    rw (is, same) (held-more old new held (take count read) none consumes)

-- none was read, and none is held
pub emptied : (old new : Option (List ℕ)) (held : List ℕ) → held ≡ [] → Keeps old new
    → Keeps (prepend_known held old) (prepend_known [] new)
emptied None new held none keeps = tt
emptied (Some left) None held none keeps = absurd keeps
emptied (Some left) (Some rest) held none keeps = rw none keeps

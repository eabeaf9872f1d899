-- Hashes of names.
use Rattle.std.specs.Prelude.{ℕ, ◌/◌, ◌^◌, List}
use Rattle.std.specs.Hash.FoldHasher.{initial, write, finish}

-- the upper half of the number that a FoldHasher gives for the bytes
unfoldable pub hash_of : List ℕ → ℕ
hash_of name = finish (write initial name) / 2 ^ 32

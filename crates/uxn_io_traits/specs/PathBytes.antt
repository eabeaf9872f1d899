-- How a path is held: its text at the start of 255 bytes, and zeros behind it.
use Rattle.std.specs.Prelude.{◌≡◌, ℕ, ◌-◌, ◌≤◌, List, ◌++◌, take, drop, length, replicate, IsTrue, is_ok}
use Rattle.std.proofs.lemmas.List.{length-take-le, take-append-drop}
use Rattle.uxn_io_traits.specs.PathText.{path_of}

pub record IsPathBytes (bytes : List ℕ) (len : ℕ) : Type 0 where
  pub within : len ≤ length bytes
  pub path : IsTrue (is_ok (path_of (take len bytes)))
  pub zeros : drop len bytes ≡ replicate (255 - len) 0

-- the text has the length that is kept
pub length_again : (bytes : List ℕ) (len : ℕ) → IsPathBytes bytes len → length (take len bytes) ≡ len
length_again bytes len h = length-take-le len bytes h.within

-- the text and zeros are the bytes that are kept
pub bytes_again : (bytes : List ℕ) (len : ℕ) → IsPathBytes bytes len
    → take len bytes ++ replicate (255 - length (take len bytes)) 0 ≡ bytes
bytes_again bytes len h = rw (length_again bytes len h, ← h.zeros) (take-append-drop len bytes)

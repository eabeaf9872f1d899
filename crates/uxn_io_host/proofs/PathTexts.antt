-- The text of a path is UTF-8.
use Rattle.std.proofs.lemmas.Grind.{common_steps}
use Rattle.std.proofs.Common.{arith, ◌≡◌, ℕ, List, Ok}
use Rattle.std.specs.Str.{IsUtf8}
use Rattle.std.proofs.lemmas.Str.{IsUtf8-from_is_utf8}
use Rattle.uxn_io_traits.specs.PathText.{path_of}

pub path_is_utf8 : (text : List ℕ) → path_of text ≡ Ok text → IsUtf8 text
unfolding path_of
path_is_utf8 text is = grind (arith, common_steps, IsUtf8-from_is_utf8)

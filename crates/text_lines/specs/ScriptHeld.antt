-- The bytes of texts that are held.
use Rattle.std.specs.Prelude.{ℕ, List, map, Option, option_map}
use Rattle.std.specs.Global.{Vec}
use Rattle.uxn_io_traits.specs.ByteList.{ByteList}

abbrev pub bytes_in : List ByteList → List (List ℕ)
bytes_in texts = map (λ text. text.list) texts

abbrev pub bytes_if : Option ByteList → Option (List ℕ)
bytes_if text = option_map (λ bytes. bytes.list) text

abbrev pub texts_if : Option (Vec ByteList) → Option (List (List ℕ))
texts_if texts = option_map (λ each. bytes_in each.items) texts

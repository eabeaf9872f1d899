use Rattle.std.specs.Prelude.{ℕ, List}
use Rattle.tal_words.specs.declared.name.Label.{Label}
use Rattle.tal_labels.specs.declared.placed.PlacedWord.{PlacedWord}

-- what an assembly holds: the bytes from the address 0100 on, the words with their places, and the labels
pub record Program : Type 0 where
  pub rom : List ℕ
  pub places : List PlacedWord
  pub labels : List Label

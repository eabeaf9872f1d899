use Rattle.std.proofs.Common.{◌≡◌, ℕ, ◌-◌, ◌<◌, ◌≤◌, List, ◌++◌, length, drop, get_or}
use Rattle.tal_words.specs.declared.name.Label.{Label}
use Rattle.tal_words.specs.PlainTexts.{text_of_items}
use Rattle.tal_listing.specs.Disassembly.{label_items}
use Rattle.tal_listing.proofs.disassembly.append_label_lines.Given as goal

-- what is left of a chain, and the text so far
pub record LinesLeft (labels : List Label) (address : ℕ) (before now : List ℕ) (place : ℕ) : Type 0 where
  pub text : now ++ text_of_items (label_items (drop place labels) address) ≡ before ++ text_of_items (label_items labels address)
  pub within : place ≤ length labels
  pub found : (d : Label) → place < length labels → (get_or labels place d).address ≡ address

abbrev pub invariant-loop-place : goal.invariant-loop-place
invariant-loop-place l = LinesLeft l.labels l.address l.initial.text.items l.text.items l.place

abbrev pub decreases-loop-place : goal.decreases-loop-place
decreases-loop-place l = length l.initial.labels - l.place

use Rattle.std.proofs.Common.{◌≡◌, take, map}
use Rattle.std.specs.Prelude.{filter, nat_lt}
use Rattle.tal_listing.specs.Texts.{text_of_lines}
use Rattle.tal_listing.specs.Listing.{word_line}
use Rattle.tal_listing.proofs.listings.listing.Given as goal

abbrev pub invariant-loop-word : goal.invariant-loop-word
invariant-loop-word l = l.text.items ≡ text_of_lines (map (word_line l.source l.assembly.rom) (filter (λ placed. nat_lt 0 placed.size) (take l.word-index l.assembly.places)))

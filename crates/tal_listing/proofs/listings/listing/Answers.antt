use Rattle.std.proofs.Common.{arith}
use Rattle.std.proofs.lemmas.Grind.{common_steps}
use Rattle.tal_listing.specs.Listing.{listing_of}
use Rattle.tal_listing.proofs.ListingLemmas.{line_fits}
use Rattle.tal_listing.proofs.listings.listing.Goals as goal

pub append_word_line-requires : goal.append_word_line-requires
append_word_line-requires c =
    let fits = line_fits c.args.source.now c.args.assembly.now c.places-word-items.result.now c.places-word-items.ensures c.requires c.loop-word.word-index _
    c.loop-word-test.true c.if-word-gt0.true in
    record { start = fits.0; end = fits.1 }

pub loop-word-preserved : goal.loop-word-preserved
loop-word-preserved c = grind (arith, common_steps)

pub returns : goal.returns
unfolding listing_of
returns c = grind (arith, common_steps)

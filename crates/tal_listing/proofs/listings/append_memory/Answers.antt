use Rattle.std.proofs.Common.{◌∙◌, ap, arith}
use Rattle.std.specs.Option.{unwrap_or}
use Rattle.tal_listing.proofs.ListingLemmas.{memory_more}
use Rattle.tal_listing.proofs.listings.append_memory.Goals as goal

pub loop-i-preserved : goal.loop-i-preserved
loop-i-preserved c =
    let read = c.unwrap_or-byte.ensures ∙ ap (λ o. unwrap_or o 0) c.copied.ensures ∙ c.get.ensures.lookup.4 (omega arith) 0 in
    rw (c.in_ok-extend_from_slice.ensures.items, c.loop-i.invariant, c.hex_byte.ensures)
    (memory_more c.args.rom.now c.args.text.now.items c.args.offset c.loop-i.i c.unwrap_or-byte.result read)

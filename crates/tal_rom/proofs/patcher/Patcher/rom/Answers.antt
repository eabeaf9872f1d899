use Rattle.tal_rom.proofs.Common.{◌≡◌, ◌+◌, ℕ, List, length, map, sym, ap, ◌∙◌, arith, rules, length-map-range_with_len, Expanded, byte_at, trimmed}
use Rattle.tal_rom.proofs.Common.{rom_limit, known_piece, added_of, image_of}
use Rattle.tal_rom.proofs.patcher.Patcher.rom.Goals as goal

length-image : (source : List ℕ) (words : List Expanded) → length (image_of source words) ≡ rom_limit
unfolding image_of
length-image source words = length-map-range_with_len (λ i. byte_at (map known_piece (added_of source words)) (256 + i)) 0 rom_limit

pub returns : goal.returns
returns c source words so =
    let image = c.image.ensures source words so in
    let same = c.in_ok-rom.ensures.items in record {
      known = omega (arith, c.waiting.ensures source words so, c.if-waiting-gt0.false);
      fit = sym (c.fits.ensures source words so) ∙ (search rules);
      short = omega (arith, ap length same, c.without_last_zeros.ensures.shorter, ap length image, length-image source words);
      bytes = same ∙ c.without_last_zeros.ensures.value ∙ ap trimmed image;
    }

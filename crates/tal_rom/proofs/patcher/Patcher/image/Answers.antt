use Rattle.tal_rom.proofs.Common.{◌≡◌, ℕ, ◌+◌, List, length, get_or, drop, ap, ◌∙◌, arith, added_of, image_of, rom_limit}
use Rattle.tal_rom.proofs.Trimming.{behind_is}
use Rattle.tal_rom.proofs.patcher.Patcher.image.Goals as goal

pub returns : goal.returns
unfolding image_of added_of
returns c source words so =
    let size = so.holds.size in
    let whole : length c.memory-memory.result.now ≡ 65536 = ap (λ (bytes : List ℕ). length bytes) c.memory-memory.ensures ∙ size in
    let mid : c.min.result ≡ 256 = omega (arith, c.min.ensures, whole) in
    c.split_at.ensures.back
    ∙ ap (λ n. drop n c.memory-memory.result.now) mid
    ∙ behind_is _ 256 rom_limit c.memory-memory.result.now (omega (arith, whole))
    (λ i within. ap (λ (bytes : List ℕ). get_or bytes (256 + i) 0) c.memory-memory.ensures ∙ so.holds.each (256 + i) (omega arith))

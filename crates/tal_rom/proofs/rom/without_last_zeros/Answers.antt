use Rattle.tal_rom.proofs.Common.{◌≡◌, ◌-◌, true, length, drop, replicate, refl, sym, ap, ◌∙◌, arith, Decides-eqb, slice_eq-Decides, trimmed}
use Rattle.tal_rom.proofs.Trimming.{stripped}
use Rattle.tal_rom.proofs.rom.without_last_zeros.Goals as goal

pub loop-prefix-preserved : goal.loop-prefix-preserved
loop-prefix-preserved c =
    let rest = c.loop-prefix.rest.now in
    let cut = c.in-Some.ensures.cases in
    let zeros : drop (length rest - 256) rest ≡ replicate 256 0 = (slice_eq-Decides Decides-eqb (drop (length rest - 256) rest) (replicate 256 0) true (sym cut.0)).0 refl in
    record {
      shorter = omega (arith, cut.2, c.loop-prefix.invariant.shorter);
      same = ap trimmed cut.1 ∙ stripped rest (length rest - 256) 256 zeros ∙ c.loop-prefix.invariant.same;
    }

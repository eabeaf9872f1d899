use Rattle.tal_rom.proofs.Common.{expanded_of, layout, rom_of}
use Rattle.tal_rom.proofs.PatchedLemmas.{when_faultless, without_known}
use Rattle.tal_rom.proofs.patcher.patched_sources_are_assembled.Goals as goal

pub returns : goal.returns
unfolding layout rom_of
returns c = record {
  waits = λ source e. (let known = when_faultless source (expanded_of source) e in (known.0, known.1));
  faultless = λ source. without_known source (expanded_of source);
  rom = λ source e. (when_faultless source (expanded_of source) e).2;
}

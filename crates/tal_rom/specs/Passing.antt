-- The pass over the words of a source: each goes from the expander to the placer, and from there to the patcher.
use Rattle.std.specs.Prelude.{ℕ, ◌≡◌, ◌≤◌, List, None, true, length}
use Rattle.uxn_limits.specs.declared.limits.TheConstants.{VISIT_LIMIT}
use Rattle.tal_macros.specs.Expansion.{expanded_of, expansion_fault}
use Rattle.tal_macros.specs.Steps.{Progress, given}
use Rattle.tal_labels.specs.declared.placer.Placer.{Placer}
use Rattle.tal_labels.specs.Placers.{WereAdded}
use Rattle.tal_rom.specs.declared.patcher.Patcher.{Patcher}
use Rattle.tal_rom.specs.Patchers.{WerePatched}
use Rattle.tal_rom.specs.Patching.{waiting_count, all_fit, image_of}
use Rattle.tal_rom.specs.Rom.{rom_limit, trimmed}
use Rattle.tal_words.specs.declared.span.Expanded.{Expanded}

-- how far the pass has come: what the expander gave was added to the placer, and what that gave to the patcher
pub record IsOnItsWay (source : List ℕ) (progress : Progress) (placer : Placer) (patcher : Patcher) : Type 0 where
  pub reads : progress.source ≡ source
  pub bound : progress.visited ≤ VISIT_LIMIT
  pub added : WereAdded source (given progress) placer
  pub patched : WerePatched source (given progress) patcher

-- a list is the ROM of these words: none of them waits, all fit, and it is the image without the zeros at its end
pub record IsRom (source : List ℕ) (words : List Expanded) (rom : List ℕ) : Type 0 where
  pub known : waiting_count source words ≡ 0
  pub fit : all_fit source words ≡ true
  pub short : length rom ≤ rom_limit
  pub bytes : rom ≡ trimmed (image_of source words)

-- all words of a source that has no fault of its macros were added, and this is their ROM
pub record AreAdded (source : List ℕ) (placer : Placer) (rom : List ℕ) : Type 0 where
  pub faultless : expansion_fault source ≡ None
  pub added : WereAdded source (expanded_of source) placer
  pub patched : IsRom source (expanded_of source) rom

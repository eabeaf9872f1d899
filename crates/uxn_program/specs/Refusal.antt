-- What is said and answered where the words of the command line cannot be had (profile).
use Rattle.std.specs.Prelude.{◌≡◌, ℕ, ◌∷◌, ◌++◌, [], Bool, true, false, List, codes, ◌⊎◌, if◌then◌else◌}
use Rattle.uxn_io_traits.specs.Ended.{SinkEnded}
use Rattle.uxn_io_traits.specs.State.{SinkState}
use Rattle.uxn_program.specs.declared.words.WordsStop.{WordsStop}
use Rattle.uxn_program.specs.declared.words.WordsStop.TheVariants.{NotText, NoMemory}

-- the line for words that are not understood
abbrev pub not_understood : List ℕ
not_understood = codes "words: not understood" ++ 10 ∷ []

-- the line was put, or the sink failed before all of it was put
pub record PutsRefusalLine (failed : Bool) (before now : SinkState) (status : ℕ) : Type 0 where
  pub status_is : status ≡ (if failed then 137 else 128)
  pub ended : SinkEnded not_understood failed before now

-- nothing was put
pub record PutsNothing (before now : SinkState) (status : ℕ) : Type 0 where
  pub status_is : status ≡ 138
  pub same : now ≡ before

abbrev pub MainRefuses : WordsStop → SinkState → SinkState → ℕ → Type 0
MainRefuses NotText before now status = PutsRefusalLine false before now status ⊎ PutsRefusalLine true before now status
MainRefuses NoMemory before now status = PutsNothing before now status

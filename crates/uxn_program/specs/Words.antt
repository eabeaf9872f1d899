-- Why the words of the command line cannot be had (profile).
use Rattle.std.specs.Prelude.{◌≡◌}
use Rattle.std.specs.IoError.{error_kind}
use Rattle.std.specs.declared.io.Error.{Error}
use Rattle.std.specs.declared.io.ErrorKind.TheVariants.{OutOfMemory}
use Rattle.uxn_program.specs.declared.words.WordsStop.{WordsStop}
use Rattle.uxn_program.specs.declared.words.WordsStop.TheVariants.{NotText, NoMemory}

-- memory ran out, or else a word is no text
pub record IsStopFor (error : Error) (stop : WordsStop) : Type 0 where
  pub memory : error_kind error ≡ OutOfMemory → stop ≡ NoMemory
  pub other : (error_kind error ≡ OutOfMemory → ⊥) → stop ≡ NotText

-- What is at a path, by what the system tells of it (profile).
use Rattle.std.specs.Prelude.{◌≡◌, ◌⊎◌, Result, Ok, Err, is_err, true, IsOkAnd}
use Rattle.std.specs.Fs.{metadata_len, file_type, IsDir, IsFile}
use Rattle.std.specs.IoError.{error_kind}
use Rattle.std.specs.declared.io.Error.{Error}
use Rattle.std.specs.declared.io.ErrorKind.TheVariants.{NotFound, NotADirectory}
use Rattle.std.specs.declared.fs.Metadata.{Metadata}
use Rattle.uxn_io_traits.specs.declared.trees.Kind.{Kind}
use Rattle.uxn_io_traits.specs.declared.trees.Kind.TheVariants.{Missing, File, Folder}

-- a folder, a file with its length, or neither, which is nothing
pub record IsKindOf (metadata : Metadata) (kind : Kind) : Type 0 where
  pub folder : IsDir (file_type metadata) → kind ≡ Folder
  pub file : IsFile (file_type metadata) → kind ≡ File (metadata_len metadata)
  pub neither : (IsDir (file_type metadata) → ⊥) → (IsFile (file_type metadata) → ⊥) → kind ≡ Missing

-- nothing is at the path, or the path leads through a file
abbrev pub TellsNothing : Error → Type 0
TellsNothing error = (error_kind error ≡ NotFound) ⊎ (error_kind error ≡ NotADirectory)

-- nothing is there where the error tells so; any other error is one
pub record IsKindAfter (error : Error) (answer : Result Kind Error) : Type 0 where
  pub nothing : TellsNothing error → answer ≡ Ok Missing
  pub other : (TellsNothing error → ⊥) → is_err answer ≡ true

-- what is answered for what the system found
abbrev pub IsKindFound : Result Metadata Error → Result Kind Error → Type 0
IsKindFound (Ok metadata) answer = IsOkAnd answer (IsKindOf metadata)
IsKindFound (Err error) answer = IsKindAfter error answer

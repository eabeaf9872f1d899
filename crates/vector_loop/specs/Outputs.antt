-- The files that a run appends to: pictures, as PPM files of Netpbm, and samples (profile).
use Rattle.std.specs.Prelude.{ℕ, ◌/◌, ◌%◌, List, [], ◌∷◌, ◌++◌, map, ℤ, Option, Some, None, IfSome}
use Rattle.std.specs.List.{flat_map, range_with_len}
use Rattle.std.specs.Int.{w16, cast_unsigned}
use Rattle.uxn_io_traits.specs.Files.{Nodes}
use Rattle.uxn_io_traits.specs.Outside.{Change, ToFile}
use Rattle.screen_frame.specs.Colours.{colours_of}
use Rattle.screen_frame.specs.Ppm.{head_bytes}
use Rattle.screen_layers.specs.Pictures.{picture_row_of}
use Rattle.varvara_bus.specs.History.{colour_bytes}
use Rattle.varvara_bus.specs.State.{DeviceState}
use Rattle.varvara_bus.specs.Bus.{IsFileWhereKnown, IsOutside}
use Rattle.vector_loop.specs.declared.output.Outputs.{Outputs}

-- bytes appended to an output, where it is requested
abbrev pub appended_to : Option (List ℕ) → List ℕ → List Change
appended_to None bytes = []
appended_to (Some path) bytes = map (λ byte. ToFile path byte) bytes

-- a row of the picture that is shown, in the colours that are stored
abbrev pub row_of_picture : DeviceState → ℕ → List ℕ
row_of_picture devices y = picture_row_of (colours_of (colour_bytes devices.history)) devices.picture y

-- the file of the picture that is shown: its head, and its rows from the top
unfoldable pub picture_bytes : DeviceState → List ℕ
picture_bytes devices =
    head_bytes devices.picture.width devices.picture.height ++ flat_map (row_of_picture devices) (range_with_len 0 devices.picture.height)

-- a sample as a signed short, its low byte first
abbrev pub sample_bytes : ℤ → List ℕ
sample_bytes sample = cast_unsigned w16 sample % 256 ∷ cast_unsigned w16 sample / 256 ∷ []

abbrev pub samples_bytes : List ℤ → List ℕ
samples_bytes samples = flat_map sample_bytes samples

-- an output at a path: a file is there, where the contents are known, and it lies outside the part that the program sees
pub record IsOutput (root : Option (List ℕ)) (contents : Option Nodes) (path : List ℕ) : Type 0 where
  pub file : IsFileWhereKnown contents path
  pub outside : IsOutside root path

-- each output that is requested is there
pub record OutputsThere (outputs : Outputs) (root : Option (List ℕ)) (contents : Option Nodes) : Type 0 where
  pub frames : IfSome outputs.frames (IsOutput root contents)
  pub samples : IfSome outputs.samples (IsOutput root contents)

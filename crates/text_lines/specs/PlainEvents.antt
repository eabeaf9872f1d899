-- The line of each event with all its values (profile).
use Rattle.std.specs.Prelude.{ℕ, List, [], ◌∷◌, codes}
use Rattle.input_ports.specs.declared.Input.TheVariants.{Key, Down, Up, Mouse, Press, Release, Scroll, DownOf, UpOf}
use Rattle.text_lines.specs.declared.script.Event.{Event}
use Rattle.text_lines.specs.declared.script.Event.TheVariants.{Input, EndInput, Frame, Device, Shot, Expect}
use Rattle.text_lines.specs.declared.script.Version.{Version}
use Rattle.text_lines.specs.declared.script.Version.TheVariants.{First, Second}
use Rattle.text_lines.specs.declared.values.Value.{Value}
use Rattle.text_lines.specs.declared.values.Value.TheVariants.{Byte, Button, MouseButton, Player, Pixel, Turn}

-- of an event's line the first version that has it, its first word, and the values behind that
abbrev pub plain_event : Event → Version × List ℕ × List Value
plain_event (Input byte) = (First, codes "input", Byte byte ∷ [])
plain_event EndInput = (First, codes "end", [])
plain_event Frame = (First, codes "frame", [])
plain_event (Device (Key byte)) = (First, codes "key", Byte byte ∷ [])
plain_event (Device (Down mask)) = (First, codes "down", Button mask ∷ [])
plain_event (Device (Up mask)) = (First, codes "up", Button mask ∷ [])
plain_event (Device (Mouse x y)) = (First, codes "mouse", Pixel x ∷ Pixel y ∷ [])
plain_event (Device (Press mask)) = (First, codes "press", MouseButton mask ∷ [])
plain_event (Device (Release mask)) = (First, codes "release", MouseButton mask ∷ [])
plain_event (Device (Scroll x y)) = (First, codes "scroll", Turn x ∷ Turn y ∷ [])
plain_event (Device (DownOf player mask)) = (Second, codes "down", Button mask ∷ Player player ∷ [])
plain_event (Device (UpOf player mask)) = (Second, codes "up", Button mask ∷ Player player ∷ [])
plain_event Shot = (First, codes "shot", [])
plain_event (Expect port byte) = (Second, codes "expect", Byte port ∷ Byte byte ∷ [])

use Rattle.std.proofs.Common.{◌≡◌, take}
use Rattle.text_lines.specs.ScriptHeld.{bytes_in}
use Rattle.text_lines.specs.ScriptRows.{inputs_of}
use Rattle.text_lines.proofs.script_reading.inputs_of.Given as goal

abbrev pub invariant-loop-text : goal.invariant-loop-text
invariant-loop-text l = l.given.items ≡ inputs_of (bytes_in (take l.text-index l.texts.items))

use Rattle.text_lines.specs.ScriptHeld.{bytes_in}
use Rattle.text_lines.proofs.ScriptLimits.{inputs_hold}
use Rattle.text_lines.proofs.script_reading.Gathered.take_inputs.Goals as goal

pub take_events-requires : goal.take_events-requires
take_events-requires c =
    rw (c.deref.ensures.value, c.in_ok-given.ensures)
    (inputs_hold c.args.self.now.version (bytes_in c.args.texts.items) c.requires.1)

use Rattle.uxn_cli.proofs.Clauses.Works.Changes.Names.{◌∙◌, ap, refl, new_core}
use Rattle.uxn_cli.proofs.playing.ready.Goals as goal

pub returns-clause-ready : goal.returns-clause-ready
returns-clause-ready c = record {
  core = c.in_ok-machine.ensures.core ∙ ap new_core c.as_slice.ensures;
  devices = rw c.in_ok-machine.ensures.script c.in_ok-machine.ensures.devices;
  undo = c.in_ok-session.ensures.undo;
  outputs = c.in_ok-outputs.ensures;
}

pub returns-clause-plan : goal.returns-clause-plan
returns-clause-plan c = rw (c.in_ok-machine.ensures.script, c.in_ok-session.ensures.debugger) refl

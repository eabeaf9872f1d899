use Rattle.std.proofs.Common.{◌≡◌, ◌++◌, length-append, arith}
use Rattle.std.specs.List.{All}
use Rattle.std.proofs.lemmas.List.Elements.{All-append}
use Rattle.text_lines.specs.ScriptLimits.{IsEvent}
use Rattle.text_lines.proofs.script_reading.Gathered.take_events.Goals as goal

pub invariant_of-self-2 : goal.invariant_of-self-2
invariant_of-self-2 c =
    let before = c.self.inside.events.items in
    let is : c.extend_from_slice.new.self.items ≡ before ++ c.args.given.now = c.in_ok-extend_from_slice.ensures.items in
    let are_events : All (IsEvent c.self.inside.version) c.args.given.now = rw (← c.self.view_is) at c.requires in
    record {
      time = c.self.invariant.time;
      texts = c.self.invariant.texts;
      few = rw is (omega (arith, c.self.invariant.few, length-append before c.args.given.now));
      given = rw is (All-append (IsEvent c.self.inside.version) before c.args.given.now c.self.invariant.given are_events);
    }

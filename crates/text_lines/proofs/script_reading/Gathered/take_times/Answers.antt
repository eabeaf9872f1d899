use Rattle.std.proofs.lemmas.Grind.{common_steps}
use Rattle.std.proofs.Common.{◌≡◌, ◌++◌, length-append, sym, arith}
use Rattle.std.specs.Prelude.{replicate}
use Rattle.std.proofs.lemmas.List.{length-replicate}
use Rattle.text_lines.specs.ScriptLimits.{IsEvent}
use Rattle.text_lines.proofs.ScriptLimits.{made_longer, pushed_times}
use Rattle.text_lines.proofs.script_reading.Gathered.take_times.Goals as goal

pub invariant_of-self-2 : goal.invariant_of-self-2
invariant_of-self-2 c =
    let before = c.self.inside.events.items in
    let is : c.resize.new.self.items ≡ before ++ replicate c.args.count c.args.given =
    made_longer before _ c.args.given c.len-2.result _ c.args.count c.len-2.ensures (sym c.self.inside.events.ok.0)
    c.in_ok-resize.ensures.items in
    let is_event : IsEvent c.self.inside.version c.args.given = rw (← c.self.view_is) at c.requires in
    record {
      time = c.self.invariant.time;
      texts = c.self.invariant.texts;
      few =
          let more = length-append before (replicate c.args.count c.args.given) in
          let count = length-replicate c.args.count c.args.given in
          rw is (omega (arith, more, count, c.if-count-len.false, c.len.ensures, c.self.inside.events.ok.0, c.self.invariant.few));
      given = rw is (pushed_times c.self.inside.version before c.args.given c.args.count c.self.invariant.given is_event);
    }

pub returns : goal.returns
returns c = grind (arith, common_steps, made_longer)

pub returns-then-count-len : goal.returns-then-count-len
returns-then-count-len c = grind (arith, common_steps)

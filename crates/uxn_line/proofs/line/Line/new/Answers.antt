use Rattle.uxn_line.proofs.Common.{length-map, refl, arith, ByteList, sink-as-it-was, Line, arguments_given, none_turned, LineRepresents, line_job}
use Rattle.uxn_line.proofs.Coming.{script-is-for}
use Rattle.uxn_line.proofs.line.Line.new.Goals as goal

pub returns : goal.returns
returns c =
    let job = line_job c.args.roms.now c.args.script.now c.args.budget in
    let roms = length-map c.args.roms.now (λ (r : ByteList). r.list) in
    let line : Line = record { members = c.in_ok-members.members; input_queue = c.new-input_queue.result; budget = c.args.budget } in
    let stands : LineRepresents job line none_turned = record {
      job_is = record { budget = c.requires.some; events = c.requires.events };
      some = omega (arith, roms, c.requires.least);
      machines = omega (arith, roms, c.in_ok-members.ensures.count);
      budget = refl;
      script = c.new-input_queue.ensures;
      console = rw c.new-input_queue.ensures (script-is-for (arguments_given c.args.script.now.arguments) c.args.script.now.events c.requires.events);
      each = c.in_ok-members.ensures.each;
    } in
    record {
      stands = stands;
      under_way = λ out. record { turned = none_turned; stands = stands; put = sink-as-it-was out };
    }

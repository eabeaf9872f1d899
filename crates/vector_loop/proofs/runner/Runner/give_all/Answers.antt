use Rattle.vector_loop.proofs.Common.{Err, ap, arith, counts_of, give_each, given, length, rules, sym, unless_over, ◌∙◌, ◌∷◌, ◌≡◌}
use Rattle.vector_loop.specs.PendingInputs.{input_count}
use Rattle.vector_loop.proofs.Counting.{room-less}
use Rattle.vector_loop.proofs.Giving.{taken-is, untaken-is}
use Rattle.vector_loop.proofs.Answering.{answers-nothing, going-on, going-stopped, room-after, same-both, same-itself}
use Rattle.vector_loop.proofs.runner.Runner.give_all.Goals as goal

pub loop-pending_input-init : goal.loop-pending_input-init
loop-pending_input-init g c =
    record { going = λ after answer answers. answers; same = same-itself _ _; frames = c.requires.frames; room = c.requires.room }

pub deliver-requires-clause-frames : goal.deliver-requires-clause-frames
deliver-requires-clause-frames g c =
    let is = taken-is c.loop-pending_input.input_queue c.in-Some.pending_input (sym c.in-Some.is ∙ c.take.ensures.value) in
    omega (arith, rw is at c.loop-pending_input.invariant.frames)

pub deliver-requires-clause-room : goal.deliver-requires-clause-room
deliver-requires-clause-room g c =
    let is = taken-is c.loop-pending_input.input_queue c.in-Some.pending_input (sym c.in-Some.is ∙ c.take.ensures.value) in
    room-less _ (input_count c.in-Some.pending_input) _ _ (omega arith) (omega arith) (rw is at c.loop-pending_input.invariant.room)

pub loop-pending_input-preserved : goal.loop-pending_input-preserved
unfolding give_each
loop-pending_input-preserved g c =
    let inv = c.loop-pending_input.invariant in
    let first = c.in-Some.pending_input in
    let rest = c.take.new.self in
    let is = taken-is c.loop-pending_input.input_queue first (sym c.in-Some.is ∙ c.take.ensures.value)
    ∙ ap (λ r. first ∷ r) (sym c.take.ensures.rest) in
    let done = c.in_ok-deliver.ensures in
    record {
      going = going-on _ _ _ _ _ (λ n. unless_over (given n c.args.outputs.now first))
          (give_each (given c.args.self.now.budget c.args.outputs.now) rest)
          c.args.self.now.budget _ _ (input_count first) (counts_of rest) (omega arith) (omega arith) inv.same.budget
          (rw is at inv.going) c.in_ok-deliver.field-0 done;
      same = same-both _ _ _ _ inv.same done.same;
      frames = omega (arith, rw is at inv.frames, done.frames);
      room = room-after _ _ _ _ (input_count first) (counts_of rest) _ _ (omega arith) (omega arith) (rw is at inv.room) done;
    }

pub returns-in_err-deliver : goal.returns-in_err-deliver
unfolding give_each
returns-in_err-deliver g c =
    let inv = c.loop-pending_input.invariant in
    let first = c.in-Some.pending_input in
    let rest = c.take.new.self in
    let is = taken-is c.loop-pending_input.input_queue first (sym c.in-Some.is ∙ c.take.ensures.value)
    ∙ ap (λ r. first ∷ r) (sym c.take.ensures.rest) in
    let result : c.from_residual.result ≡ Err c.in_err-deliver.field-0.0 = search rules in
    rw result (going-stopped _ _ _ _ _ (λ n. unless_over (given n c.args.outputs.now first))
    (give_each (given c.args.self.now.budget c.args.outputs.now) rest)
    c.args.self.now.budget _ _ (input_count first) (counts_of rest) (omega arith) (omega arith) inv.same.budget
    (rw is at inv.going) c.in_err-deliver.field-0.0 c.in_err-deliver.ensures)

pub returns : goal.returns
unfolding give_each
returns g c =
    let none = untaken-is c.loop-pending_input.input_queue (sym c.in_default.is ∙ c.take.ensures.value) in
    rw none at c.loop-pending_input.invariant.going _ _ (answers-nothing _ _ (tt {0}))

pub loop-pending_input-smaller : goal.loop-pending_input-smaller
loop-pending_input-smaller g c =
    let is = taken-is c.loop-pending_input.input_queue c.in-Some.pending_input (sym c.in-Some.is ∙ c.take.ensures.value) in
    omega (arith, ap length is, ap length c.take.ensures.rest)

use Rattle.std.proofs.lemmas.Grind.{common_steps}
use Rattle.std.proofs.Common.{◌+◌, false, ◌++◌, ℕ, ap, take, drop, arith}
use Rattle.std.proofs.lemmas.List.{length-take, length-append, take-append-le}
use Rattle.uxn_io_traits.specs.EndedLaws.{looked-then}
use Rattle.file_ports.proofs.ReadLemmas.{known_more, known_end, put_more}
use Rattle.file_ports.proofs.reading.put_file.Goals as goal

pub loop-done-preserved : goal.loop-done-preserved
loop-done-preserved g c =
    let taken = c.in_ok-taken.taken in
    let chunk = c.loop-done.chunk in
    let into = c.read.new.into in
    let size = length-take c.min-wanted.result chunk in
    record {
      within = omega (arith, c.in_ok-taken.ensures.count, size);
      contents =
          known_more _ _ c.args.path.now c.args.memory.now c.loop-done.memory c.put.new.self (take taken (into ++ drop c.min-wanted.result chunk)) (take c.min-wanted.result chunk) into c.args.place c.args.span.at c.loop-done.done taken _
          (omega arith) (ap (λ (n : ℕ). c.args.place + n) c.from-in-loop-done.ensures) c.loop-done.invariant.tree.contents c.loop-done.invariant.contents c.in_ok-taken.ensures.answer
          (take-append-le taken into (drop c.min-wanted.result chunk) (omega (arith, c.in_ok-taken.ensures.count, size))) c.put.ensures;
      put =
          put_more c.args.memory.now c.loop-done.memory c.put.new.self (take taken (into ++ drop c.min-wanted.result chunk)) c.args.span.at c.loop-done.done taken
          (omega arith) c.loop-done.invariant.put (omega (arith, c.in_ok-taken.ensures.count, size, length-take taken (into ++ drop c.min-wanted.result chunk), length-append into (drop c.min-wanted.result chunk))) c.put.ensures;
      tree = looked-then false _ _ _ c.loop-done.invariant.tree c.in_ok-taken.ensures.looked;
    }

pub returns-then-taken-eq0-clause-piece : goal.returns-then-taken-eq0-clause-piece
returns-then-taken-eq0-clause-piece g c =
    let size = length-take c.min-wanted.result c.loop-done.chunk in
    known_end _ _ c.args.path.now c.args.memory.now c.loop-done.memory (take c.min-wanted.result c.loop-done.chunk) c.read.new.into c.args.place c.args.span.at c.loop-done.done c.in_ok-taken.taken c.args.span.count _
    (ap (λ (n : ℕ). c.args.place + n) c.from-in-loop-done.ensures) c.loop-done.invariant.tree.contents c.loop-done.invariant.contents c.in_ok-taken.ensures.answer c.if-taken-eq0.true (omega (arith, size)) c.loop-done.invariant.within

pub returns-then-taken-eq0-clause-tree : goal.returns-then-taken-eq0-clause-tree
returns-then-taken-eq0-clause-tree g c = grind (arith, common_steps)

pub returns-in_err-taken-clause-tree : goal.returns-in_err-taken-clause-tree
returns-in_err-taken-clause-tree g c = grind (arith, common_steps)

pub loop-done-init : goal.loop-done-init
loop-done-init g c = grind (arith, common_steps)

pub returns-in_err-taken-clause-stopped : goal.returns-in_err-taken-clause-stopped
returns-in_err-taken-clause-stopped g c = grind (arith, common_steps)

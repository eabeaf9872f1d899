use Rattle.uxn_line.proofs.Common.{common_steps, Ended, ◌≡◌, [], length, refl, sym, ◌∙◌, rules, arith, slice_get_read, sink-as-it-was, machine_place}
use Rattle.uxn_line.proofs.Common.{Err}
use Rattle.uxn_line.proofs.Handed.{few-bytes, handed-length}
use Rattle.uxn_line.proofs.Running.{runs-at, still-came, found-same, ran-came, held-came, put-fails}
use Rattle.uxn_line.proofs.Standings.{ended-is}
use Rattle.uxn_line.proofs.line.Line.turn_at.Goals as goal

pub returns-then-is_over : goal.returns-then-is_over
returns-then-is_over g c =
    let items = c.args.self.now.members.items in
    let member = c.index-member.result.now in
    let there = slice_get_read items (length items) c.args.index member refl c.requires c.index-member.ensures in
    record {
      bytes = [];
      put = sink-as-it-was _;
      came = still-came c.args.self.now c.args.index Ended refl (λ job turned stands.
          (ended-is member (machine_place job turned c.args.index) (stands.each c.args.index member there).stands).0
          (sym c.is_over.ensures.value ∙ c.if-is_over.true));
    }

pub give_at-requires : goal.give_at-requires
give_at-requires g c = (c.index-member.result.now, grind (arith, common_steps, slice_get_read))

pub returns-in_err-hand_on : goal.returns-in_err-hand_on
returns-in_err-hand_on g c =
    let result : c.from_residual.result ≡ Err c.in_err-hand_on.field-0.0 = search rules in
    rw result (put-fails _ c.args.self.now c.args.index _ (runs-at _ c.args.self.now c.args.index _ c.requires c.index-member.ensures
    c.if-member-eq0.false c.next_byte-byte.ensures) _ _ _ c.in_err-hand_on.ensures)

pub returns-then-not-branch : goal.returns-then-not-branch
returns-then-not-branch g c =
    held-came _ c.args.self.now c.args.index _ (runs-at _ c.args.self.now c.args.index _ c.requires c.index-member.ensures
    c.if-member-eq0.false c.next_byte-byte.ensures) _ _ _ (rw c.if-not-branch.true at c.in_ok-hand_on.ensures)

pub index_mut-requires : goal.index_mut-requires
index_mut-requires g c = grind (arith, common_steps, handed-length)

pub run-requires : goal.run-requires
run-requires g c =
    let runs = runs-at _ c.args.self.now c.args.index _ c.requires c.index-member.ensures c.if-member-eq0.false c.next_byte-byte.ensures in
    rw (found-same _ c.args.self.now c.args.index _ runs c.hand_on.new.self _ _ c.index_mut.result.now
    (rw c.if-not-branch.false at c.in_ok-hand_on.ensures) c.index_mut.ensures.value) runs.vector

pub returns : goal.returns
returns g c =
    ran-came _ c.args.self.now c.args.index _ (runs-at _ c.args.self.now c.args.index _ c.requires c.index-member.ensures c.if-member-eq0.false
    c.next_byte-byte.ensures) c.hand_on.new.self _ _ c.index_mut.result.now c.run.new.self
    (rw c.if-not-branch.false at c.in_ok-hand_on.ensures) (few-bytes c.next_byte-byte.result) c.index_mut.ensures.value c.run.ensures.ran
    c.run.ensures.work

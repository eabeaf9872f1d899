use Rattle.uxn_line.proofs.Common.{◌+◌, [], ◌∷◌, length, refl, sym, ap, ◌∙◌, length-append, line_job, slice_get}
use Rattle.uxn_line.proofs.NewLines.{rom-there, member-more}
use Rattle.uxn_line.proofs.line.members_of.Goals as goal

pub loop-index-preserved : goal.loop-index-preserved
loop-index-preserved c =
    let items = c.loop-index.members.items in
    let index = c.loop-index.index in
    let job = line_job c.args.roms.now c.args.script.now c.args.budget in
    let more = c.in_ok-push.ensures.items in
    let rom = rom-there c.args.roms.now index c.index-roms-index.result c.loop-index-test.true c.index-roms-index.is in
    record {
      count = ap length more ∙ length-append items (_ ∷ []) ∙ ap (λ n. n + 1) c.loop-index.invariant.count;
      each = λ machine other there.
          member-more job items c.in_ok-member_at.field-0 index c.loop-index.invariant.count c.loop-index.invariant.each
          (c.in_ok-member_at.ensures job refl refl rom) machine other (ap (λ all. slice_get all machine) (sym more) ∙ there);
    }

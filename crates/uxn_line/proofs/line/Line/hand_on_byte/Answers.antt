use Rattle.uxn_line.proofs.Common.{◌≡◌, refl, rules, arith, add-one, Err, slice_get_within, sink-as-it-was, common_steps}
use Rattle.uxn_line.proofs.Handed.{handed-past, handed-set, read-behind}
use Rattle.uxn_line.proofs.line.Line.hand_on_byte.Goals as goal

pub returns-then-index-len : goal.returns-then-index-len
returns-then-index-len g c =
    let write = c.in_ok-console_write.ensures.standard refl in
    grind (arith, common_steps, handed-past, slice_get_within, c.len.ensures, c.args.self.now.members.ok.0)

pub returns-in_err-console_write : goal.returns-in_err-console_write
returns-in_err-console_write g c =
    let result : c.from_residual.result ≡ Err c.in_err-console_write.field-0.0 = search rules in
    let write = c.in_err-console_write.ensures.standard refl in
    rw result (grind (arith, common_steps))

pub returns-then-is_full : goal.returns-then-is_full
returns-then-is_full g c =
    let items = c.args.self.now.members.items in
    let full = c.is_full.ensures.full c.if-is_full.true in
    record {
      same = refl;
      same_out = refl;
      some = λ none. cc;
      next = c.index.result.now;
      there = read-behind items c.args.index c.index.result.now
          (omega (arith, c.requires, c.if-index-len.false, c.len.ensures, c.args.self.now.members.ok.0)) c.index.ensures;
      goes_on = full.0;
      full = full.1;
    }

pub returns : goal.returns
returns g c = grind (arith, common_steps, read-behind, handed-set, add-one, sink-as-it-was)

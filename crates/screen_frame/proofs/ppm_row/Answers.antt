use Rattle.std.proofs.Common.{◌≡◌, ℕ, ◌*◌, ◌+◌, ◌<◌, List, [], length, take, slice_index, slice_index_or, refl, ap, ◌∙◌, arith}
use Rattle.screen_frame.proofs.ppm_row.Goals as goal
use Rattle.screen_frame.proofs.RowLemmas.{row_more, row_two}

pub loop-i-preserved : goal.loop-i-preserved
loop-i-preserved c =
    let colours = c.args.palette.now.colours in
    let row = c.args.row.now in
    let i = c.loop-i.i in
    let colour = λ (k : ℕ) (wide : List ℕ) (h : k < length row) (e : wide ≡ slice_index_or c.wide-wide.result (slice_index row k) []).
    ap (λ w. take 3 w) e ∙ c.wide-wide.ensures (slice_index row k) (c.requires.values k 0 h) in
    let one = row_two colours row c.loop-i.into c.put_two.new.into c.wide_of.result c.wide_of-in-loop-i.result i (3 * i) refl (omega arith) c.put_two.ensures.prefix
    (colour i _ (omega arith) c.wide_of.ensures) (colour (i + 1) _ (omega arith) c.wide_of-in-loop-i.ensures) c.loop-i.invariant.prefix in
    let third : i + 2 + 1 ≡ i + 3 = omega arith in
    let two = row_two colours row c.put_two.new.into c.put_two-in-loop-i.new.into c.wide_of-in-loop-i-2.result c.wide_of-in-loop-i-3.result (i + 2) (3 * i + 6) (omega arith) (omega arith) c.put_two-in-loop-i.ensures.prefix
    (colour (i + 2) _ (omega arith) c.wide_of-in-loop-i-2.ensures) (rw third (colour (i + 3) _ (omega arith) c.wide_of-in-loop-i-3.ensures)) one in
    let pixels : i + 4 ≡ i + 2 + 2 = omega arith in
    record {
      within = omega arith;
      prefix = rw pixels two;
    }

pub loop-at-preserved : goal.loop-at-preserved
loop-at-preserved c = row_more c.args.palette.now.colours c.args.row.now c.loop-at.into c.colour.result c.loop-at.at c.loop-at-test.true (omega arith) c.colour.ensures.channels c.colour.ensures.count c.loop-at.invariant

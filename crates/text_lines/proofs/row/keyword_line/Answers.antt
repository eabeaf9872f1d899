use Rattle.std.proofs.Common.{Some, None, refl}
use Rattle.text_lines.proofs.Tables.{value_row}
use Rattle.text_lines.proofs.row.keyword_line.Goals as goal

pub returns-in-Some : goal.returns-in-Some
returns-in-Some g c = rw (← value_row c.args.name.now c.args.rows.now (Some c.in-Some.row.now) c.in-Some.ensures, ← c.count_words.ensures) c.with_count.ensures

pub returns-in-None : goal.returns-in-None
returns-in-None g c = rw (← value_row c.args.name.now c.args.rows.now None c.in-None.ensures) refl

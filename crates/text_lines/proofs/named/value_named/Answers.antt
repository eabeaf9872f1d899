use Rattle.std.proofs.Common.{Some, None}
use Rattle.text_lines.proofs.Tables.{value_row}
use Rattle.text_lines.proofs.named.value_named.Goals as goal

pub returns-in-Some : goal.returns-in-Some
returns-in-Some g c = value_row c.args.name.now c.args.rows.now (Some c.in-Some.row.now) c.in-Some.ensures

pub returns-in-None : goal.returns-in-None
returns-in-None g c = value_row c.args.name.now c.args.rows.now None c.in-None.ensures

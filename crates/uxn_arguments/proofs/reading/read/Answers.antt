use Rattle.std.proofs.Common.{◌∙◌, map, string_bytes, sym}
use Rattle.clap.specs.Words.{app_of}
use Rattle.uxn_arguments.specs.Parsing.{table_choices}
use Rattle.uxn_arguments.proofs.ReadingLemmas.{read_err, read_illegal, read_ok}
use Rattle.uxn_arguments.proofs.reading.read.Goals as goal

pub returns-then-not-are_legal : goal.returns-then-not-are_legal
returns-then-not-are_legal c = read_illegal (table_choices c.args.table.now) (map string_bytes c.args.words.now) (sym c.are_legal.ensures ∙ c.if-not-are_legal.true)

pub returns-in-Ok : goal.returns-in-Ok
returns-in-Ok c =
    read_ok (table_choices c.args.table.now) (app_of c.in_ok-parser.field-0) c.in_ok-parser.ensures (map string_bytes c.args.words.now)
    (sym c.are_legal.ensures ∙ c.if-not-are_legal.false) (record { matches = c.in-Ok.matches }) c.in-Ok.ensures.matches c.in-Ok.ensures.kinds

pub returns : goal.returns
returns c =
    read_err (table_choices c.args.table.now) (app_of c.in_ok-parser.field-0) c.in_ok-parser.ensures (map string_bytes c.args.words.now)
    (sym c.are_legal.ensures ∙ c.if-not-are_legal.false) c.in-Err.error c.in-Err.ensures.kinds (λ memory. c.in_default.not-OutOfMemory (c.kind.ensures ∙ memory))

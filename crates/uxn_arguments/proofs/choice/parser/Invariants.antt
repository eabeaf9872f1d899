use Rattle.std.proofs.Common.{◌≡◌, take}
use Rattle.clap.specs.Words.{app_of}
use Rattle.uxn_arguments.specs.Parsing.{parser_for, table_choices}
use Rattle.uxn_arguments.proofs.choice.parser.Given as goal

abbrev pub invariant-loop-choice : goal.invariant-loop-choice
invariant-loop-choice l = app_of l.parser ≡ parser_for (table_choices (take l.choice-index l.table))

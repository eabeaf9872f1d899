use Rattle.std.proofs.lemmas.Grind.{common_steps}
use Rattle.std.proofs.Common.{arith, rules, ◌≡◌, ◌∙◌, ap, ap₂, sym, map, take, ◌∷◌, []}
use Rattle.std.proofs.lemmas.List.{map_more, map-append}
use Rattle.clap.specs.Words.{app_of, rule_of, with_rule}
use Rattle.uxn_arguments.specs.Parsing.{choice_in, table_choices, choice_argument, parser_of, operand_argument}
use Rattle.uxn_arguments.proofs.choice.parser.Goals as goal

pub loop-choice-init : goal.loop-choice-init
loop-choice-init c =
    let app : app_of c.disable_version_flag.result ≡ parser_of [] = search rules in
    let rule : rule_of c.required-operand.result ≡ operand_argument = search rules in
    c.in_ok-parser.ensures.shape (search rules) ∙ ap₂ with_rule app rule

pub loop-choice-preserved : goal.loop-choice-preserved
loop-choice-preserved c =
    c.in_ok-parser-2.ensures.shape c.argument.ensures.local
    ∙ ap₂ with_rule c.loop-choice.invariant c.argument.ensures.rule
    ∙ ap (λ rules. parser_of (operand_argument ∷ rules)) (sym (ap (map choice_argument) (map_more choice_in c.args.table.now c.loop-choice.choice-index _ c.loop-choice-test.true)
    ∙ map-append choice_argument (table_choices (take c.loop-choice.choice-index c.args.table.now)) (_ ∷ [])))

pub returns : goal.returns
returns c = grind (arith, common_steps)

use Rattle.std.proofs.lemmas.Grind.{common_steps}
use Rattle.std.proofs.Common.{◌<◌, arith}
use Rattle.std.proofs.lemmas.List.Elements.{All-drop, All-from_get_or, All-take}
use Rattle.hex.proofs.HexLemmas.{decode_of-ok}
use Rattle.text_lines.specs.ScriptValues.{text_of_values}
use Rattle.text_lines.proofs.values.text_of_values.Goals as goal

pub returns-in-Ok-clause-short : goal.returns-in-Ok-clause-short
returns-in-Ok-clause-short c = grind (arith, common_steps, decode_of-ok)

pub returns-in-Ok-clause-bytes : goal.returns-in-Ok-clause-bytes
returns-in-Ok-clause-bytes c =
    let known = decode_of-ok c.args.word.now c.in-Ok.bytes.items c.in-Ok.ensures.ok in
    rw c.from.ensures (All-from_get_or (λ byte. byte < 256) c.in-Ok.bytes.items 0 (λ i within. known.3 i))

pub returns-then-begins_with-clause-text : goal.returns-then-begins_with-clause-text
unfolding text_of_values
returns-then-begins_with-clause-text c = grind (arith, common_steps)

pub returns-then-begins_with-clause-short : goal.returns-then-begins_with-clause-short
returns-then-begins_with-clause-short c = grind (arith, common_steps)

pub returns-then-begins_with-clause-bytes : goal.returns-then-begins_with-clause-bytes
returns-then-begins_with-clause-bytes c =
    let all = All-from_get_or (λ byte. byte < 256) c.args.word.now 0 (λ i within. omega (arith, c.type_inv.word i)) in
    rw c.in_ok-new.ensures (All-take (λ byte. byte < 256) _ _ (All-drop (λ byte. byte < 256) 1 c.args.word.now all))

pub returns-in-Ok-clause-text : goal.returns-in-Ok-clause-text
unfolding text_of_values
returns-in-Ok-clause-text c = grind (arith, common_steps)

pub returns-in-Err : goal.returns-in-Err
unfolding text_of_values
returns-in-Err c = record { text = grind (arith, common_steps); short = tt; bytes = tt }

use Rattle.std.proofs.Common.{◌≡◌, ◌∙◌, ◌+◌, ◌==◌, rules, tests, refl, ap, sym, drop, length, ℕ, ◌-◌, take, take_all, length-drop, arith}
use Rattle.std.specs.Prelude.{Some, None, position, option_map}
use Rattle.std.proofs.lemmas.Iterator.{YieldsList-from_slice}
use Rattle.std.proofs.lemmas.Iterator.Search.{position_from_yields_List}
use Rattle.uxn_arguments.specs.Choices.{is_plain, value_behind}
use Rattle.uxn_arguments.proofs.ReadingLemmas.{value_at}
use Rattle.uxn_arguments.proofs.legal.has_plain_value.Goals as goal

pub returns-in-Some : goal.returns-in-Some
returns-in-Some c =
    let found : c.position.result ≡ position (λ byte. byte == 61) c.args.text.now =
    position_from_yields_List (λ byte. byte == 61) _ _ c.position.result c.position.ensures.ran (YieldsList-from_slice _ c.iter.ensures.rest) (λ x b q k. search (rules, tests)) in
    let value : value_behind c.args.text.now ≡ Some (drop (c.in-Some.at + 1) c.args.text.now) =
    value_at c.args.text.now ∙ ap (option_map (λ at. drop (at + 1) c.args.text.now)) (sym found ∙ c.in-Some.is) in
    let rest : take (length c.args.text.now - (c.in-Some.at + 1)) (drop (c.in-Some.at + 1) c.args.text.now) ≡ drop (c.in-Some.at + 1) c.args.text.now =
    take_all (length c.args.text.now - (c.in-Some.at + 1)) (drop (c.in-Some.at + 1) c.args.text.now) (omega (arith, length-drop {A = ℕ})) in
    rw value (c.is_plain.ensures ∙ ap is_plain rest)

pub returns-in-None : goal.returns-in-None
returns-in-None c =
    let found : c.position.result ≡ position (λ byte. byte == 61) c.args.text.now =
    position_from_yields_List (λ byte. byte == 61) _ _ c.position.result c.position.ensures.ran (YieldsList-from_slice _ c.iter.ensures.rest) (λ x b q k. search (rules, tests)) in
    let value : value_behind c.args.text.now ≡ None = value_at c.args.text.now ∙ ap (option_map (λ at. drop (at + 1) c.args.text.now)) (sym found ∙ c.in-None.is) in
    rw value refl

-- The place of the first zero byte.
use Rattle.std.proofs.Common.{◌≡◌, ◌∙◌, ◌==◌, rules, tests, ap, sym}
use Rattle.std.specs.Prelude.{position, take}
use Rattle.std.specs.Option.{option_map}
use Rattle.std.proofs.lemmas.Iterator.{YieldsList-from_slice}
use Rattle.std.proofs.lemmas.Iterator.Search.{position_from_yields_List}
use Rattle.file_ports.proofs.names.before_zero.Goals as goal

pub returns-in-Some : goal.returns-in-Some
returns-in-Some c =
    let found : c.position.result ≡ position (λ byte. byte == 0) c.args.bytes.now =
    position_from_yields_List (λ byte. byte == 0) _ _ c.position.result c.position.ensures.ran (YieldsList-from_slice _ c.iter.ensures.rest) (λ x b q k. search (rules, tests)) in
    ap (option_map (λ end. take end c.args.bytes.now)) (sym c.in-Some.is ∙ found)

pub returns-in-None : goal.returns-in-None
returns-in-None c =
    let found : c.position.result ≡ position (λ byte. byte == 0) c.args.bytes.now =
    position_from_yields_List (λ byte. byte == 0) _ _ c.position.result c.position.ensures.ran (YieldsList-from_slice _ c.iter.ensures.rest) (λ x b q k. search (rules, tests)) in
    ap (option_map (λ end. take end c.args.bytes.now)) (sym c.in-None.is ∙ found)

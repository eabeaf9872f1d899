use Rattle.tal_rom.proofs.Common.{◌≡◌, length, drop, refl, ap, ◌∙◌, arith, min, drop_min, encoded, overlaid}
use Rattle.tal_rom.proofs.Holding.{holds_put, few_are}
use Rattle.tal_rom.proofs.patch.Patch.put_word.Goals as goal

pub returns-in-Text : goal.returns-in-Text
returns-in-Text c model placed next so =
    let first : c.min.result ≡ min 1 (length c.args.text.now) = omega (arith, c.min.ensures) in
    let rest : drop c.min.result c.args.text.now ≡ encoded c.args.form c.args.text.now 0 0 =
    rw (first, drop_min 1 c.args.text.now, c.in-Text.is) refl in
    let laid = c.put.ensures ∙ ap (overlaid c.args.self.now.memory.items c.args.address) (c.split_at.ensures.back ∙ rest) in
    holds_put model placed _ _ _ next c.args.self.now _ c.requires.bare laid so

pub returns-in_default : goal.returns-in_default
returns-in_default c model placed next so =
    let bytes = c.as_slice.ensures.value ∙ c.few_bytes.ensures ∙ few_are c.args.form c.args.text.now c.in_default.not-Text c.requires.bare in
    let laid = c.put-in_default.ensures ∙ ap (overlaid c.args.self.now.memory.items c.args.address) bytes in
    holds_put model placed _ _ _ next c.args.self.now _ c.requires.bare laid so

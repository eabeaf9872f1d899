use Rattle.tal_rom.proofs.Common.{◌≡◌, true, false, Ok, refl, ap, sym, ◌∙◌, arith, rules, closes, full_name, scope_after, defined_name, is_definition}
use Rattle.tal_rom.proofs.Common.{on_ok_weaker}
use Rattle.tal_rom.proofs.AddedLemmas.{bytes_address, reference_address, definition_address, closing_address, not_definition, not_reference}
use Rattle.tal_rom.proofs.AddedLemmas.{reference_still, behind_placed, word_all, end_all, define_all}
use Rattle.tal_words.proofs.BraceLemmas.{not_opening}
use Rattle.tal_labels.proofs.NextWord.{given_next}
use Rattle.tal_rom.proofs.patcher.Patcher.take.Goals as goal

pub overflow_cast-hole : goal.overflow_cast-hole
overflow_cast-hole c = omega (arith, reference_address c.args.source.now c.args.word.now c.requires.given c.in-Refer.rune c.in-Refer.is)

pub overflow_cast-word : goal.overflow_cast-word
overflow_cast-word c =
    let label : is_definition c.args.word.now.form ≡ true = search rules in
    omega (arith, definition_address c.args.source.now c.args.word.now c.requires.given label)

pub put_word-requires : goal.put_word-requires
put_word-requires c = record {
  bare = not_reference c.args.word.now.form c.in_default.not-Refer;
  at = λ some. bytes_address c.args.source.now c.args.word.now c.requires.given (rw c.requires.read at some);
}

pub overflow_cast-word-then-closes : goal.overflow_cast-word-then-closes
overflow_cast-word-then-closes c =
    omega (arith, closing_address c.args.source.now c.args.word.now c.requires.given (ap closes (sym c.requires.read) ∙ sym c.if-closes.ensures))

pub returns-then-opens-clause-added : goal.returns-then-opens-clause-added
returns-then-opens-clause-added c =
    on_ok_weaker c.open.result (λ ok words few so given.
    let still = reference_still _ _ (words, given) c.in-Refer.rune c.in-Refer.is in
    word_all _ words c.args.word.now given few true _ c.args.text.now _ c.open.new.self c.in-Refer.is c.requires.read refl
    (sym c.if-opens.ensures) (rw c.requires.read still) (ok _ _ _ (sym c.if-opens.ensures)) so.holds)
    c.open.ensures.ok

pub returns-in_ok-name-in-Refer-clause-added : goal.returns-in_ok-name-in-Refer-clause-added
returns-in_ok-name-in-Refer-clause-added c =
    on_ok_weaker c.refer.result (λ ok words few so given.
    let named =
    c.in_ok-name-in-Refer.ensures
    ∙ ap (λ s. full_name s c.name_after_rune.result.now) (c.text.ensures ∙ so.scope ∙ sym (behind_placed _ words so.sound))
    ∙ ap (full_name _) c.name_after_rune.ensures in
    let still = reference_still _ _ (words, given) c.in-Refer.rune c.in-Refer.is in
    word_all _ words c.args.word.now given few false _ c.args.text.now _ c.refer.new.self c.in-Refer.is c.requires.read refl
    (sym c.if-opens.ensures) (rw c.requires.read still) (ok _ _ _ (sym c.if-opens.ensures) named) so.holds)
    c.refer.ensures.ok

pub returns-in_ok-name-in-LabelDef-clause-added : goal.returns-in_ok-name-in-LabelDef-clause-added
returns-in_ok-name-in-LabelDef-clause-added c =
    let label : is_definition c.args.word.now.form ≡ true = search rules in
    on_ok_weaker c.define.result (λ ok words few so given.
    let named =
    c.in_ok-name-in-LabelDef.ensures
    ∙ ap (λ s. defined_name (Ok c.args.word.now.form) s c.args.text.now) (c.text-in-LabelDef.ensures ∙ so.scope)
    ∙ ap (defined_name (Ok c.args.word.now.form) (scope_after c.args.source.now words)) c.requires.read in
    define_all _ words c.args.word.now given few _ _ c.define.new.self label named (ok _) so.holds)
    c.define.ensures.ok

pub returns-then-closes-clause-added : goal.returns-then-closes-clause-added
returns-then-closes-clause-added c words few so given =
    end_all _ words c.args.word.now given few c.args.text.now _ c.put_word.new.self c.close.new.self c.requires.read (sym c.if-closes.ensures)
    (c.put_word.ensures _ _) (c.close.ensures _) so.holds

pub returns-else-closes-clause-added : goal.returns-else-closes-clause-added
returns-else-closes-clause-added c words few so given =
    let formed = (given_next _ words c.args.word.now given).formed in
    word_all _ words c.args.word.now given few false _ c.args.text.now _ c.put_word.new.self refl c.requires.read
    (not_definition _ c.in_default.not-LabelDef c.in_default.not-SubDef)
    (rw c.requires.read (not_opening _ _ formed c.in_default.not-Refer)) (sym c.if-closes.ensures) (c.put_word.ensures _ _) so.holds

use Rattle.tal_labels.proofs.Common.{◌≡◌, ℕ, ◌-◌, ◌≤◌, List, length, drop, length-drop, true, Some, None, Ok, sym, ◌∙◌, ap, arith, option_map, Span}
use Rattle.tal_labels.proofs.Common.{bytes_at, expanded_text, refl, Form, LambdaEnd, form, size, ltb, defined_name, is_mark_form, formed_marks, is_defined, kept_by}
use Rattle.std.proofs.Common.{length-take, Option, ◌<◌}
use Rattle.std.specs.Prelude.{OnSome}
use Rattle.std.specs.Global.{Vec}
use Rattle.tal_labels.proofs.LayingLemmas.{well_placed}
use Rattle.tal_words.proofs.BraceLemmas.{form-closes}
use Rattle.tal_labels.proofs.KeptLemmas.{IsNext, refused_shape, validated_next, next_kept}
use Rattle.tal_labels.proofs.placer.Placer.place_next.Goals as goal

-- a text is within its source
text-short : (source : List ℕ) (span : Span) → length (bytes_at source span) ≤ length source
text-short source span = omega (arith, length-take (span.end - span.start) (drop span.start source), length-drop span.start source)

-- a `}` is a mark
mark_closes : (shape : Form) (text : List ℕ) → form text ≡ Ok shape → form text ≡ Ok LambdaEnd → is_mark_form shape ≡ true
mark_closes shape text e h = ap formed_marks (sym e ∙ h)

-- a word that defines a name is a mark
named_low : (name : Option (Vec ℕ)) (shape : Form) (scope text : List ℕ) (address : ℕ) → option_map (λ bytes. bytes.items) name ≡ defined_name (Ok shape) scope text
    → (is_mark_form shape ≡ true → address < 65536) → OnSome name (address < 65536)
named_low None shape scope text address e low = tt
named_low (Some bytes) shape scope text address e low = low (grind arith)

pub keep-requires : goal.keep-requires
keep-requires c =
    let kept = c.args.self.now in
    let form_is : form (expanded_text c.args.source.now c.args.word) ≡ Ok c.in-Ok.form = sym (ap form c.text-text.ensures) ∙ c.in-Ok.ensures.0 in
    let well = well_placed (is_defined kept.labels (option_map (λ bytes. bytes.items) c.in_ok-name.name)) kept.address (size c.in-Ok.form c.text-text.result.now) (is_mark_form c.in-Ok.form) (ltb kept.address kept.top) (sym c.in_default.ensures) in
    record {
      here = refl;
      size = c.size.ensures;
      read = c.text-text.ensures;
      shape = form_is;
      new = well.new;
      named = named_low c.in_ok-name.name c.in-Ok.form _ _ kept.address c.in_ok-name.ensures well.mark;
      closing = λ closing. well.mark (mark_closes c.in-Ok.form c.text-text.result.now c.in-Ok.ensures.0 (form-closes c.text-text.result.now closing));
      within = rw c.size.ensures well.high;
    }

pub returns-in-Err-clause-value : goal.returns-in-Err-clause-value
returns-in-Err-clause-value c words few so =
    refused_shape c.args.source.now words c.args.word (kept_by c.args.self.now) so c.text-text.result.now c.len.result c.in-Err.kind
    (omega arith) c.text-text.ensures c.in-Err.ensures ∙ sym (ap Some c.new.ensures)

pub returns-in-Some-clause-value : goal.returns-in-Some-clause-value
returns-in-Some-clause-value c words few so =
    let text = c.text-text.result.now in
    let named = c.in_ok-name.ensures ∙ ap (λ s. defined_name (Ok c.in-Ok.form) s text) c.text.ensures in
    let next : IsNext c.args.source.now c.args.word c.in-Ok.form text = record { read = c.text-text.ensures; formed = c.in-Ok.ensures.0 } in
    validated_next c.args.source.now words c.args.word (kept_by c.args.self.now) so c.in-Ok.form text c.len.result _ (Some c.in-Some.kind) next
    (omega arith) named c.in-Ok.ensures.1 (sym c.in-Some.ensures) ∙ sym (ap Some c.new-in-Some.ensures)

pub returns-clause-value : goal.returns-clause-value
returns-clause-value c words few so =
    let text = c.text-text.result.now in
    let kept = c.args.self.now in
    let named = c.in_ok-name.ensures ∙ ap (λ s. defined_name (Ok c.in-Ok.form) s text) c.text.ensures in
    let next : IsNext c.args.source.now c.args.word c.in-Ok.form text = record { read = c.text-text.ensures; formed = c.in-Ok.ensures.0 } in
    let validated = validated_next c.args.source.now words c.args.word (kept_by kept) so c.in-Ok.form text c.len.result _ None next
    (omega arith) named c.in-Ok.ensures.1 (sym c.in_default.ensures) in
    let well = well_placed (is_defined kept.labels (option_map (λ bytes. bytes.items) c.in_ok-name.name)) kept.address (size c.in-Ok.form text) (is_mark_form c.in-Ok.form) (ltb kept.address kept.top) (sym c.in_default.ensures) in
    let done = next_kept c.args.source.now words c.args.word c.in-Ok.form text (option_map (λ bytes. bytes.items) c.in_ok-name.name)
    (record { word = c.args.word; form = c.in-Ok.form; address = kept.address; size = c.size.result; lambda = None })
    (kept_by kept) (kept_by c.keep.new.self) so next few
    (omega (arith, ap length c.text-text.ensures, text-short c.args.source.now c.args.word.text, c.requires.source))
    named (ap (λ n. record { word = c.args.word; form = c.in-Ok.form; address = kept.address; size = n; lambda = None }) c.size.ensures) validated well.above
    c.in_ok-keep.ensures.ok in
    (validated, sym (ap form next.read) ∙ next.formed, done.0, done.1)

use Rattle.std.proofs.Common.{◌≡◌, length, take, drop, Some, None, ap, sym, ◌∙◌, arith}
use Rattle.std.proofs.lemmas.Bool.{eqb-false}
use Rattle.tal_symbols.specs.Reading.{entry_fault, label_of_entry}
use Rattle.tal_symbols.specs.Answers.{entry_length}
use Rattle.tal_symbols.proofs.ReadingLemmas.{reads_stop, reads_more, stops_refused, found_refusal}
use Rattle.tal_symbols.proofs.reading.read_symbols.Goals as goal

pub returns-in-Some : goal.returns-in-Some
returns-in-Some c =
    let bytes = c.args.bytes.now in
    let rest = c.loop-rest.rest.now in
    let prefix : c.split_at.result.0.now ≡ take (entry_length rest) rest = rw (← c.entry_len.ensures.value) c.split_at.ensures.front in
    let fault : entry_fault (take (entry_length rest) rest) ≡ Some c.in-Some.kind = sym (c.in-Some.ensures ∙ ap entry_fault prefix) in
    let ne = eqb-false (length rest) 0 (sym c.is_empty.ensures ∙ c.loop-rest-test.true) in
    let stop = reads_stop bytes rest c.loop-rest.labels.items c.in-Some.kind c.loop-rest.invariant (omega arith) fault in
    let count : c.len-entry.result ≡ length c.loop-rest.labels.items = c.len-entry.ensures ∙ c.loop-rest.labels.ok.0 in
    record {
      found = rw count (found_refusal bytes _ (omega arith) stop.0);
      means = rw count (stops_refused bytes (length c.loop-rest.labels.items) c.in-Some.kind (omega arith) stop.1);
    }

pub loop-rest-preserved : goal.loop-rest-preserved
loop-rest-preserved c =
    let rest = c.loop-rest.rest.now in
    let prefix : c.split_at.result.0.now ≡ take (entry_length rest) rest = rw (← c.entry_len.ensures.value) c.split_at.ensures.front in
    let back : c.split_at.result.1.now ≡ drop (entry_length rest) rest = rw (← c.entry_len.ensures.value) c.split_at.ensures.back in
    let sound : entry_fault (take (entry_length rest) rest) ≡ None = sym (c.in_default.ensures ∙ ap entry_fault prefix) in
    let ne = eqb-false (length rest) 0 (sym c.is_empty.ensures ∙ c.loop-rest-test.true) in
    rw (back, c.in_ok-push.ensures.items)
    (reads_more c.args.bytes.now rest c.loop-rest.labels.items c.in_ok-label.label (λ k within. omega (arith, c.type_inv.bytes k))
    c.loop-rest.invariant (omega arith) sound (c.in_ok-label.ensures ∙ ap label_of_entry prefix))

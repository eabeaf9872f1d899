use Rattle.tal_labels.proofs.Common.{◌≡◌, ℕ, ◌+◌, ◌-◌, ◌≤◌, not, List, length, take, drop, refl, ◌∙◌, ap, arith, take-append_seam, take-append-drop}
use Rattle.tal_labels.proofs.Common.{take-append-le, drop-take, drop-drop, ◌==◌, prefix_len, LabelDef, Span, scope_of, bytes_at}
use Rattle.std.proofs.Common.{length-take}
use Rattle.std.proofs.lemmas.List.{length-take}
use Rattle.std.proofs.lemmas.Grind.{common_steps}
use Rattle.tal_labels.proofs.LabelNames.{not_empty}
use Rattle.tal_labels.proofs.scope.scope_span.Goals as goal

-- what is taken from a prefix is taken from the whole
take-prefix : (n m : ℕ) (xs : List ℕ) → n ≤ length (take m xs) → take n xs ≡ take n (take m xs)
take-prefix n m xs h = rw (take-append-drop m xs) at (take-append-le n (take m xs) (drop m xs) h)

take-own : (n : ℕ) (xs : List ℕ) → take (length (take n xs)) xs ≡ take n xs
take-own n xs = rw (take-append-drop n xs) at (take-append_seam (take n xs) (drop n xs))

-- the bytes of the part
part : (source : List ℕ) (word : Span) (n : ℕ) → 1 ≤ length (bytes_at source word) → n ≡ length (scope_of (drop 1 (bytes_at source word)))
    → bytes_at source (record { start = word.start + 1; end = word.start + 1 + n }) ≡ scope_of (drop 1 (bytes_at source word))
part source word n some e =
    let name = drop 1 (bytes_at source word) in
    let more = word.end - word.start - 1 in
    let count : word.start + 1 + n - (word.start + 1) ≡ n = omega arith in
    let size : word.end - word.start ≡ 1 + more = omega (arith, some, length-take (word.end - word.start) (drop word.start source)) in
    let read : name ≡ take more (drop (word.start + 1) source) =
    ap (λ k. drop 1 (take k (drop word.start source))) size ∙ drop-take 1 more (drop word.start source) ∙ ap (take more) (drop-drop 1 word.start source) in
    let short : n ≤ length (take more (drop (word.start + 1) source)) = omega (arith, e, ap length read, length-take (prefix_len (λ byte. not (byte == 47)) name) name) in
    rw (count, take-prefix n more (drop (word.start + 1) source) short, ← read, e) (take-own (prefix_len (λ byte. not (byte == 47)) name) name)

pub split_at-requires : goal.split_at-requires
split_at-requires c = omega (arith, ap length c.text.ensures, not_empty _ LabelDef c.requires refl)

pub returns : goal.returns
returns c = part c.args.source.now c.args.word (length c.scope_of.result.now) (not_empty _ LabelDef c.requires refl) (ap length (c.scope_of.ensures ∙ ap scope_of (c.split_at.ensures.back ∙ ap (drop 1) c.text.ensures)))

pub overflow_add-result : goal.overflow_add-result
overflow_add-result c = grind (arith, common_steps)

pub overflow_cast-result : goal.overflow_cast-result
overflow_cast-result c = grind (arith, common_steps)

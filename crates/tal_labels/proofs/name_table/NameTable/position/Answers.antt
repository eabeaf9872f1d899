use Rattle.tal_labels.proofs.Common.{◌≡◌, ◌+◌, ◌-◌, ◌<◌, ◌⊎◌, ℕ, [], true, false, length, map, get_or, arith, ap, sym, ◌∙◌, inl, inr, length-map}
use Rattle.std.proofs.Common.{subst}
use Rattle.std.proofs.lemmas.List.{get_or-map}
use Rattle.std.specs.List.{position_or_len}
use Rattle.std.specs.Str.{bytes_eq}
use Rattle.tal_labels.specs.Hashes.{hash_of}
use Rattle.tal_labels.specs.NameTables.{name_in}
use Rattle.tal_labels.proofs.TableLemmas.{IsFirstFrom, first-none, first-next, first-position}
use Rattle.tal_labels.proofs.name_table.NameTable.position.Goals as goal
use Rattle.tal_labels.proofs.name_table.NameTable.position.Goals.{then-is_kept, else-is_kept}

pub loop-end-init : goal.loop-end-init
loop-end-init c =
    let bytes = c.self.inside.bytes.items in
    let names = map (name_in bytes) c.self.inside.kept.items in
    let hashes = c.self.inside.chains.hashes.items in
    let hashed = c.self.invariant.hashed in
    let count : length hashes ≡ length names = ap length hashed ∙ length-map names hash_of in
    let size : length names ≡ c.len-found.result = length-map c.self.inside.kept.items (name_in bytes) ∙ sym (c.len-found.ensures ∙ c.self.inside.kept.ok.0) in
    let P : ℕ → Type 0 = λ found. IsFirstFrom c.args.name.now names c.first-end.result found in
    record {
      first =
          subst P size (first-none c.args.name.now names hashes c.first-end.result hashed
          (λ i above below same. c.first-end.ensures.skipped i above (omega (arith, below, count)) (same ∙ sym c.hash-hash.ensures)));
      within = c.first-end.ensures.within;
      alike = c.first-end.ensures.alike;
    }

pub loop-end-preserved : goal.loop-end-preserved
loop-end-preserved c =
    let bytes = c.self.inside.bytes.items in
    let name = c.args.name.now in
    let kept = c.self.inside.kept.items in
    let names = map (name_in bytes) kept in
    let hashes = c.self.inside.chains.hashes.items in
    let hashed = c.self.invariant.hashed in
    let count : length hashes ≡ length names = ap length hashed ∙ length-map names hash_of in
    let index = c.loop-end.end - 1 in
    let some : 0 < c.loop-end.end = c.loop-end-test.true in
    let inside : index < length names = omega (arith, some, count, c.loop-end.invariant.within) in
    let here : index < length kept = omega (arith, inside, length-map kept (name_in bytes)) in
    let read : bytes_eq name (get_or names index []) ≡ c.is_kept.result =
    ap (bytes_eq name) (get_or-map (name_in bytes) kept index c.index.result.now [] here ∙ ap (name_in bytes) (sym c.index.ensures))
    ∙ ap (λ b. bytes_eq name (name_in b c.index.result.now)) (sym c.deref.ensures.value) ∙ sym c.is_kept.ensures in
    let decision : ((bytes_eq name (get_or names index []) ≡ true) × (c.if-is_kept.found ≡ index))
    ⊎ ((bytes_eq name (get_or names index []) ≡ false) × (c.if-is_kept.found ≡ c.loop-end.found)) =
    elim c.if-is_kept.branch [
      | then-is_kept w ↦ inl (read ∙ w.if-is_kept.true, w.found-is)
      | else-is_kept w ↦ inr (read ∙ w.if-is_kept.false, w.found-is)
    ] in
    let end : c.loop-end.end ≡ index + 1 = omega (arith, some) in
    let P : ℕ → Type 0 = λ from. IsFirstFrom name names from c.loop-end.found in
    record {
      first =
          first-next name names hashes c.next-end.result index c.loop-end.found c.if-is_kept.found hashed inside c.next-end.ensures.within
          (λ i above lower same. c.next-end.ensures.skipped i above lower (same ∙ sym c.hash-hash.ensures)) decision
          (subst P end c.loop-end.invariant.first);
      within = omega (arith, c.next-end.ensures.within, c.loop-end.invariant.within);
      alike = c.next-end.ensures.alike;
    }

pub returns : goal.returns
returns c =
    let names = map (name_in c.self.inside.bytes.items) c.self.inside.kept.items in
    first-position c.args.name.now names c.loop-end.end c.loop-end.found (omega (arith, c.loop-end-test.false)) c.loop-end.invariant.first
    ∙ ap (position_or_len (bytes_eq c.args.name.now)) c.self.view_is

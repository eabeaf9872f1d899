-- Names that are kept without the scopes that they share, and how they are found.
use Rattle.tal_labels.proofs.Common.{◌≡◌, ℕ, ◌+◌, ◌-◌, ◌<◌, ◌≤◌, ◌⊎◌, Bool, true, false, List, [], ◌∷◌, ◌++◌, length, get_or, sym, ◌∙◌, ap, arith, inl, inr}
use Rattle.tal_labels.proofs.Common.{append-nil, take-append-drop, cases_lt, refl, map, take, drop, length-append, length-drop, append_assoc, map-append, AllByRecursion, bytes_at, Span}
use Rattle.std.proofs.Math.Seq.{take-append_seam, drop-append_seam}
use Rattle.std.proofs.lemmas.Bool.{false_from_ne_true}
use Rattle.std.proofs.lemmas.List.{drop-append-le, take-append-le, get_or-map}
use Rattle.std.proofs.lemmas.List.Sums.{position_or_len_is}
use Rattle.std.proofs.lemmas.Slice.Eq.{bytes_eq-Decides}
use Rattle.std.specs.List.{position_or_len}
use Rattle.std.specs.Str.{bytes_eq}
use Rattle.tal_labels.specs.Hashes.{hash_of}
use Rattle.tal_labels.specs.NameTables.{name_in, IsWithin, Grows, IsAdded, AreKept}
use Rattle.tal_labels.specs.declared.kept.Kept.{Kept}

-- bytes that are appended leave a part that lies before them
pub bytes_at-grown : (bytes more : List ℕ) (span : Span) → span.end ≤ length bytes → bytes_at (bytes ++ more) span ≡ bytes_at bytes span
bytes_at-grown bytes more span within = elim (cases_lt span.start (length bytes)) [
  | inl lies ↦
      ap (take (span.end - span.start)) (drop-append-le span.start bytes more (omega arith))
      ∙ take-append-le (span.end - span.start) (drop span.start bytes) more (simp length-drop (omega arith))
  | inr past ↦ let none : span.end - span.start ≡ 0 = omega arith in rw none refl
]

-- what was appended lies in its part
pub bytes_at-appended : (bytes more behind : List ℕ) (span : Span) → span.start ≡ length bytes → span.end ≡ length bytes + length more
    → bytes_at ((bytes ++ more) ++ behind) span ≡ more
bytes_at-appended bytes more behind span start end =
    let size : span.end - span.start ≡ length more = omega arith in
    rw (size, start, append_assoc, drop-append_seam, take-append_seam) refl

-- a name that is kept stays
name_in-grown : (bytes more : List ℕ) (kept : Kept) → IsWithin (length bytes) kept → name_in (bytes ++ more) kept ≡ name_in bytes kept
name_in-grown bytes more kept within = rw (bytes_at-grown bytes more kept.shared within.0, bytes_at-grown bytes more kept.rest within.1) refl

names-grown : (bytes more : List ℕ) (names : List Kept) → AllByRecursion (IsWithin (length bytes)) names
    → map (name_in (bytes ++ more)) names ≡ map (name_in bytes) names
names-grown bytes more [] all = refl
names-grown bytes more (kept ∷ names) all =
    ap (λ name. name ∷ map (name_in (bytes ++ more)) names) (name_in-grown bytes more kept all.0)
    ∙ ap (λ others. name_in bytes kept ∷ others) (names-grown bytes more names all.1)

within-grown : (size larger : ℕ) (names : List Kept) → size ≤ larger → AllByRecursion (IsWithin size) names → AllByRecursion (IsWithin larger) names
within-grown size larger [] le all = tt
within-grown size larger (kept ∷ names) le all = ((omega (arith, all.0.0), omega (arith, all.0.1)), within-grown size larger names le all.1)

within-more : (size : ℕ) (names : List Kept) (kept : Kept) → AllByRecursion (IsWithin size) names → IsWithin size kept → AllByRecursion (IsWithin size) (names ++ kept ∷ [])
within-more size [] kept all within = (within, tt)
within-more size (first ∷ names) kept all within = (all.0, within-more size names kept all.1 within)

-- bytes were appended, and no name
pub stay-named : (old new : List ℕ) (names : List Kept) (hashes : List ℕ) (scope : Span) → Grows old new → AreKept old names hashes scope
    → map (name_in new) names ≡ map (name_in old) names
stay-named old new names hashes scope grows kept = rw grows.is (names-grown old grows.more names kept.within)

pub stay-kept : (old new : List ℕ) (names : List Kept) (hashes : List ℕ) (scope : Span) → Grows old new → AreKept old names hashes scope
    → AreKept new names hashes scope
stay-kept old new names hashes scope grows kept =
    let size : length old ≤ length new = omega (arith, ap length grows.is, length-append old grows.more) in
    record {
      within = within-grown (length old) (length new) names size kept.within;
      hashed = kept.hashed ∙ ap (map hash_of) (sym (stay-named old new names hashes scope grows kept));
      scope_within = omega (arith, size, kept.scope_within);
    }

-- a name was added
pub more-named : (old new : List ℕ) (names : List Kept) (hashes : List ℕ) (scope : Span) (name : List ℕ) (added : Kept) (later : Span)
    → Grows old new → IsAdded new name added later → AreKept old names hashes scope
    → map (name_in new) (names ++ added ∷ []) ≡ map (name_in old) names ++ name ∷ []
more-named old new names hashes scope name added later grows is kept =
    map-append (name_in new) names (added ∷ [])
    ∙ ap (λ others. others ++ name_in new added ∷ []) (stay-named old new names hashes scope grows kept)
    ∙ ap (λ read. map (name_in old) names ++ read ∷ []) is.read

pub more-kept : (old new : List ℕ) (names : List Kept) (hashes hashes' : List ℕ) (scope : Span) (name : List ℕ) (added : Kept) (later : Span)
    → Grows old new → IsAdded new name added later → hashes' ≡ hashes ++ hash_of name ∷ [] → AreKept old names hashes scope
    → AreKept new (names ++ added ∷ []) hashes' later
more-kept old new names hashes hashes' scope name added later grows is more kept =
    let stays = stay-kept old new names hashes scope grows kept in
    record {
      within = within-more (length new) names added stays.within is.within;
      hashed = more ∙ ap (λ others. others ++ hash_of name ∷ []) kept.hashed
          ∙ sym (map-append hash_of (map (name_in old) names) (name ∷ []))
          ∙ ap (map hash_of) (sym (more-named old new names hashes scope name added later grows is kept));
      scope_within = is.scope_within;
    }

-- the first of the names from an index on that is this one, if there is one
pub record IsFirstFrom (name : List ℕ) (names : List (List ℕ)) (from found : ℕ) : Type 0 where
  pub within : found ≤ length names
  pub before : (k : ℕ) → from ≤ k → k < found → bytes_eq name (get_or names k []) ≡ false
  pub passes : found < length names → bytes_eq name (get_or names found []) ≡ true

-- a name of another hash is another one
differs : (name other : List ℕ) (hash : ℕ) → hash ≡ hash_of other → (hash ≡ hash_of name → ⊥) → bytes_eq name other ≡ false
differs name other hash is differ =
    false_from_ne_true (bytes_eq name other) (λ same. differ (is ∙ ap hash_of (sym ((bytes_eq-Decides name other).0 same))))

hash_at : (names : List (List ℕ)) (hashes : List ℕ) (i : ℕ) → hashes ≡ map hash_of names → i < length names
    → get_or hashes i 0 ≡ hash_of (get_or names i [])
hash_at names hashes i is within = ap (λ l. get_or l i 0) is ∙ get_or-map hash_of names i [] 0 within

-- where no name from an index on has this hash, none of them is this one
pub first-none : (name : List ℕ) (names : List (List ℕ)) (hashes : List ℕ) (from : ℕ) → hashes ≡ map hash_of names
    → ((i : ℕ) → from ≤ i → i < length names → get_or hashes i 0 ≡ hash_of name → ⊥) → IsFirstFrom name names from (length names)
first-none name names hashes from is skipped = record {
  within = omega arith;
  before = λ k above below. differs name (get_or names k []) (get_or hashes k 0) (hash_at names hashes k is below) (skipped k above below);
  passes = λ below. absurd (omega (arith, below));
}

-- from an index to an earlier one, with only names of another hash between
pub first-next : (name : List ℕ) (names : List (List ℕ)) (hashes : List ℕ) (next index found found' : ℕ) → hashes ≡ map hash_of names
    → index < length names → next ≤ index → ((i : ℕ) → next ≤ i → i < index → get_or hashes i 0 ≡ hash_of name → ⊥)
    → ((bytes_eq name (get_or names index []) ≡ true) × (found' ≡ index)) ⊎ ((bytes_eq name (get_or names index []) ≡ false) × (found' ≡ found))
    → IsFirstFrom name names (index + 1) found → IsFirstFrom name names next found'
first-next name names hashes next index found found' is inside below skipped (inl here) first = record {
  within = omega (arith, here.1, inside);
  before = λ k above before.
      let lower : k < index = omega (arith, before, here.1) in
      differs name (get_or names k []) (get_or hashes k 0) (hash_at names hashes k is (omega (arith, lower, inside))) (skipped k above lower);
  passes = λ past. ap (λ j. bytes_eq name (get_or names j [])) here.1 ∙ here.0;
}
first-next name names hashes next index found found' is inside below skipped (inr other) first = record {
  within = omega (arith, other.1, first.within);
  before = λ k above before. elim (cases_lt k index) [
    | inl lower ↦ differs name (get_or names k []) (get_or hashes k 0) (hash_at names hashes k is (omega (arith, lower, inside))) (skipped k above lower)
    | inr upper ↦ elim (cases_lt index k) [
      | inl higher ↦ first.before k (omega (arith, higher)) (omega (arith, before, other.1))
      | inr same ↦ let e : k ≡ index = omega (arith, upper, same) in ap (λ j. bytes_eq name (get_or names j [])) e ∙ other.0
    ]
  ];
  passes = λ past. ap (λ j. bytes_eq name (get_or names j [])) other.1 ∙ first.passes (omega (arith, past, other.1));
}

-- from the first index on, that is the place of the name
pub first-position : (name : List ℕ) (names : List (List ℕ)) (from found : ℕ) → from ≡ 0 → IsFirstFrom name names from found
    → found ≡ position_or_len (bytes_eq name) names
first-position name names from found start first =
    sym (position_or_len_is (bytes_eq name) names found [] first.within (λ k below. first.before k (omega (arith, start)) below) first.passes)

-- a name is what is kept exactly where its end is the rest, and what stands before that is the shared part
same_truth : (a b : Bool) → (a ≡ true → b ≡ true) → (b ≡ true → a ≡ true) → a ≡ b
same_truth true true there back = refl
same_truth true false there back = sym (there refl)
same_truth false true there back = back refl
same_truth false false there back = refl

pub kept-some : (name shared rest front shared' rest' : List ℕ) (same : Bool) → shared' ≡ shared → rest' ≡ rest
    → front ≡ take (length name - length rest') name → bytes_eq (drop (length name - length rest') name) rest' ≡ true
    → same ≡ bytes_eq front shared' → same ≡ bytes_eq name (shared ++ rest)
kept-some name shared rest front shared' rest' same is_shared is_rest is_front ends is =
    let n = length name - length rest' in
    let tail : drop n name ≡ rest' = (bytes_eq-Decides (drop n name) rest').0 ends in
    let whole : name ≡ front ++ rest = sym (take-append-drop n name) ∙ ap (λ l. l ++ drop n name) (sym is_front) ∙ ap (λ l. front ++ l) (tail ∙ is_rest) in
    is ∙ same_truth (bytes_eq front shared') (bytes_eq name (shared ++ rest))
    (λ there. (bytes_eq-Decides name (shared ++ rest)).1 (whole ∙ ap (λ l. l ++ rest) ((bytes_eq-Decides front shared').0 there ∙ is_shared)))
    (λ back.
    let e : name ≡ shared ++ rest = (bytes_eq-Decides name (shared ++ rest)).0 back in
    let size : n ≡ length shared = omega (arith, ap length e, length-append shared rest, ap length is_rest) in
    (bytes_eq-Decides front shared').1 (is_front ∙ ap (λ m. take m name) size ∙ ap (take (length shared)) e ∙ take-append_seam shared rest ∙ sym is_shared))

pub kept-none : (name shared rest rest' : List ℕ) → rest' ≡ rest → bytes_eq (drop (length name - length rest') name) rest' ≡ false
    → false ≡ bytes_eq name (shared ++ rest)
kept-none name shared rest rest' is_rest ends =
    let n = length name - length rest' in
    sym (false_from_ne_true (bytes_eq name (shared ++ rest)) (λ same.
    let e : name ≡ shared ++ rest = (bytes_eq-Decides name (shared ++ rest)).0 same in
    let size : n ≡ length shared = omega (arith, ap length e, length-append shared rest, ap length is_rest) in
    let tail : drop n name ≡ rest' = ap (λ m. drop m name) size ∙ ap (drop (length shared)) e ∙ drop-append_seam shared rest ∙ sym is_rest in
    let yes : bytes_eq (drop n name) rest' ≡ true = (bytes_eq-Decides (drop n name) rest').1 tail in
    cc))

-- a name that begins with a scope is the scope and the rest
pub scope-whole : (bytes name rest prefix : List ℕ) (scope : Span) → prefix ≡ bytes_at bytes scope → bytes_eq (take (length prefix) name) prefix ≡ true
    → rest ≡ drop (length prefix) name → name_in bytes (record { shared = scope; rest = record { start = 0; end = 0 } }) ++ rest ≡ name
scope-whole bytes name rest prefix scope is begins is_rest =
    ap (λ l. l ++ rest) (append-nil (bytes_at bytes scope) ∙ sym is ∙ sym ((bytes_eq-Decides (take (length prefix) name) prefix).0 begins))
    ∙ ap (λ l. take (length prefix) name ++ l) is_rest ∙ take-append-drop (length prefix) name

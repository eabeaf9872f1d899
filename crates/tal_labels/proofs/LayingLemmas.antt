use Rattle.std.specs.Prelude.{slice_get}
use Rattle.tal_labels.proofs.Common.{◌≡◌, ℕ, ◌+◌, ◌<◌, ◌≤◌, Bool, true, false, List, [], ◌∷◌, ◌++◌, length, None, Ok, cond, ◌||◌, refl, ◌∙◌, ap}
use Rattle.tal_labels.proofs.Common.{arith, take, drop, get_or, Err, Result, FaultKind, shape_kinds, none-at, nat_tests, list_any, is_some, unwrap_or}
use Rattle.tal_labels.proofs.Common.{ltb, list_any-append, Expanded, Form, LabelDef, Pad, Validated, phase_fault, form, size, each}
use Rattle.tal_labels.proofs.Common.{expanded_text, pad_value, moves, moved_since_pad, address_after, defined_name, scope_after, labels_given}
use Rattle.tal_labels.proofs.Common.{labels_of, place_kinds, ends_given, ends_of, next_address, next_scope, label_of, collected-more, last_of-more}
use Rattle.tal_labels.proofs.Common.{no_word, get_or-each, length-each}

-- where no word has a fault of a phase, a word has none
pub each-none : (validate : List Expanded → Expanded → List Expanded → Validated) (words : List Expanded) → phase_fault (each validate [] words) ≡ None → (k : ℕ) → k < length words
    → slice_get (validate (take k words) (get_or words k no_word) (drop (k + 1) words)).kinds 0 ≡ None
each-none validate words sound k within =
    let nothing : Validated = record { origin = record { span = record { start = 0; end = 0 }; line = 0; column = 0 }; kinds = [] } in
    rw (← get_or-each validate [] words k no_word nothing within) (none-at (each validate [] words) k nothing sound (omega (arith, length-each validate [] words)))

-- a shape without a fault has a form
pub has_form : (f : Result Form FaultKind) (text : List ℕ) (depth : ℕ) (closed : Bool) → shape_kinds f text depth closed ≡ [] → (shape : Form) × (f ≡ Ok shape)
has_form (Ok shape) text depth closed e = (shape, refl)
has_form (Err kind) text depth closed e = cc

pub or_false : (x y : Bool) → (x || y) ≡ false → (x ≡ false) × (y ≡ false)
or_false x y e = grind arith

-- a word whose place has no fault
pub record IsWellPlaced (twice : Bool) (place size : ℕ) (is_mark below : Bool) : Type 0 where
  pub new : twice ≡ false
  pub low : 0 < size → 256 ≤ place
  pub high : 0 < size → place + size ≤ 65536
  pub above : 0 < size → below ≡ false
  pub mark : is_mark ≡ true → place < 65536

pub well_placed : (twice : Bool) (place size : ℕ) (is_mark below : Bool) → slice_get (place_kinds twice place size is_mark below) 0 ≡ None → IsWellPlaced twice place size is_mark below
well_placed twice place size is_mark below e = grind (arith, nat_tests)

module _ (source : List ℕ) where
  moved-more : (words : List Expanded) (last : Expanded) → let text = expanded_text source last in
      moved_since_pad source (words ++ last ∷ []) ≡ cond (is_some (pad_value (form text))) 0 (moved_since_pad source words) + moves (form text) text
  moved-more [] last = grind arith
  moved-more (word ∷ words) last = rw (last_of-more _ words last, moved-more words last) (grind arith)

  -- the place after one more word
  pub address-more : (words : List Expanded) (last : Expanded) → let text = expanded_text source last in
      address_after source (words ++ last ∷ []) ≡ unwrap_or (pad_value (form text)) (address_after source words) + moves (form text) text
  unfolding address_after
  address-more words last = rw (last_of-more _ words last, moved-more words last) (grind arith)

  pub address_after-more : (words : List Expanded) (last : Expanded) (shape : Form) → form (expanded_text source last) ≡ Ok shape
      → address_after source (words ++ last ∷ []) ≡ next_address shape (expanded_text source last) (address_after source words)
  address_after-more words last (Pad value) e = rw (address-more words last, e) (omega arith)
  address_after-more words last shape e = rw (address-more words last, e) refl

-- the scope after one word more
pub scope_after-append : (source : List ℕ) (before : List Expanded) (word : Expanded) (shape : Form) → form (expanded_text source word) ≡ Ok shape
    → scope_after source (before ++ word ∷ []) ≡ next_scope shape (scope_after source before) (expanded_text source word)
unfolding scope_after
scope_after-append source before word LabelDef e = rw (last_of-more _ before word, e) refl
scope_after-append source before word shape e = rw (last_of-more _ before word, e) refl

raised_top : (place size top : ℕ) (p : ℕ) → (0 < size → ltb place top ≡ false)
    → (ltb p top || list_any (λ end. ltb p end) (cond (ltb 0 size) ((place + size) ∷ []) [])) ≡ ltb p (cond (ltb 0 size) (place + size) top)
raised_top place size top p above = grind (arith, nat_tests)

module _ (source : List ℕ) (before : List Expanded) (word : Expanded) where
  -- the labels with one word more
  pub labels_of-append : (shape : Form) → form (expanded_text source word) ≡ Ok shape → labels_of source (before ++ word ∷ []) ≡ labels_of source before ++ label_of (defined_name (Ok shape) (scope_after source before) (expanded_text source word)) (address_after source before)
  unfolding labels_of
  labels_of-append shape e = collected-more (labels_given source) (λ b w a c. refl) [] before word ∙ rw e (grind arith)

  -- the ends above a place with one word more
  pub ends_of-append : (p : ℕ) → list_any (λ end. ltb p end) (ends_of source (before ++ word ∷ [])) ≡ (list_any (λ end. ltb p end) (ends_of source before) || list_any (λ end. ltb p end) (ends_given source before word []))
  unfolding ends_of
  ends_of-append p =
      ap (list_any (λ end. ltb p end)) (collected-more (ends_given source) (λ b w a c. refl) [] before word)
      ∙ list_any-append (λ end. ltb p end) (ends_of source before) (ends_given source before word [])

  pub top-append : (shape : Form) → form (expanded_text source word) ≡ Ok shape → (length top next : ℕ) → length ≡ size shape (expanded_text source word)
      → ((p : ℕ) → list_any (λ end. ltb p end) (ends_of source before) ≡ ltb p top) → (0 < length → ltb (address_after source before) top ≡ false)
      → next ≡ cond (ltb 0 length) (address_after source before + length) top
      → (p : ℕ) → list_any (λ end. ltb p end) (ends_of source (before ++ word ∷ [])) ≡ ltb p next
  top-append shape e length top next sized so above raised p =
      rw (ends_of-append p, so p, e, ← sized, raised) (raised_top (address_after source before) length top p above)

-- What a patch represents, with one word more and where targets become known.
use Rattle.tal_rom.proofs.Common.{◌≡◌, ℕ, zero, suc, ◌+◌, ◌-◌, ◌<◌, inl, inr, Bool, true, false, not, ◌&&◌, List, [], ◌∷◌, ◌++◌, length, map}
use Rattle.tal_rom.proofs.Common.{Option, Some, None, cond, if◌then◌else◌, refl, sym, ◌∙◌, ap, arith, append-nil, length-append, fold, is_some, Names}
use Rattle.tal_rom.proofs.Common.{filter, flat_map, bytes_eq, map-append, list_any-append, count_by-le-length, length-filter, bytes_eq-Decides, Vec}
use Rattle.tal_rom.proofs.Common.{AllByRecursion, Label, Form, Text, Refer, opens, encoded, address_named, full_name, name_after_rune, expanded_text}
use Rattle.tal_rom.proofs.Common.{collected, each, each-more, last_of-more, PlacedWord, closed_at, openers_step, scope_after, Hole, Patch, known_in}
use Rattle.tal_rom.proofs.Common.{last_of_all, wanted_in, byte_at, overlaid, filled_hole, is_reference, Added, waits, is_far, known_piece, added_given, rules}
use Rattle.tal_rom.proofs.Common.{form_target, scope_behind, PatchModel, PatchHolds, ComesNext, AreFilled, AreOpen, IsOpenAt, hole_at, holes_by}
use Rattle.tal_rom.proofs.Common.{name_hole, holes_named, added_in, added_span, span_of_word, with_word, with_end, AreAscending, by_last, both_nil}
use Rattle.std.specs.Option.{IsSome, option_to_list}
use Rattle.std.proofs.Math.Seq.{take-append_seam}
use Rattle.std.proofs.lemmas.List.Concat.{flat_map-append}
use Rattle.std.proofs.lemmas.List.Elements.{filter-append}
use Rattle.indexmap.proofs.RemoveLemmas.{popped_last}
use Rattle.tal_words.proofs.OrderLemmas.{collected-more, length-each}
use Rattle.tal_rom.proofs.Moving.{length-overlaid, Settles, nothing, stays, fills, fewer_wait, fit_too, filled_read, ascending_push, pushed_read}

module _ (source : List ℕ) (labels : List Label) where
  abbrev added : List PlacedWord → List PlacedWord → List Added
  added before words = each (added_given source labels) before words

  pub spans_of : (before words : List PlacedWord) → map added_span (added before words) ≡ map (span_of_word source) words
  spans_of before [] = refl
  spans_of before (placed ∷ words) = rw (spans_of (before ++ placed ∷ []) words) refl

-- the word that comes next, by its full name
abbrev pub next_word : List Label → Form → List ℕ → ℕ → List ℕ → Added
next_word labels form text address full = record {
  form = form;
  text = text;
  address = address;
  target = form_target form (if opens text then None else address_named labels full);
}

-- one word more, which looks up a full name or opens a lambda, if it is a reference
pub record IsMore (labels : List Label) (word : Added) (full : List ℕ) (opening : Bool) (old new : Patch) : Type 0 where
  pub memory : new.memory.items ≡ overlaid old.memory.items word.address (known_piece word).bytes
  pub waiting : new.waiting ≡ old.waiting + length (filter waits (word ∷ []))
  pub fits : new.fits ≡ (old.fits && not (is_far word))
  pub known : (name : List ℕ) → known_in new.names name ≡ known_in old.names name
  pub wanted : (name : List ℕ) → wanted_in new.names name ≡ wanted_in old.names name
      ++ cond (is_some (address_named labels name)) [] (holes_by word.form word.address (not (opens word.text) && bytes_eq name full))
  pub openers : new.openers.items ≡ old.openers.items ++ cond opening (holes_by word.form word.address true) []

-- where a word comes behind openers that are open they stay so, and so do their holes
module _ (source : List ℕ) (placed : PlacedWord) where
  abbrev StaysOpen : List PlacedWord → ℕ → Type 0
  StaysOpen words at = IsOpenAt source (words ++ placed ∷ []) at × (hole_at (words ++ placed ∷ []) at ≡ hole_at words at)

  one_still : (words : List PlacedWord) (at : ℕ) → IsOpenAt source words at → StaysOpen words at
  one_still [] at here = absurd here
  one_still (word ∷ words) zero here = (here, refl)
  one_still (word ∷ words) (suc at) here = one_still words at here

  pub all_still : (words : List PlacedWord) (openers : List ℕ) → AllByRecursion (IsOpenAt source words) openers
      → AllByRecursion (IsOpenAt source (words ++ placed ∷ [])) openers
      × (flat_map (hole_at (words ++ placed ∷ [])) openers ≡ flat_map (hole_at words) openers)
  all_still words [] all = (tt, refl)
  all_still words (at ∷ openers) all = grind (arith, one_still words at all.0, all_still words openers all.1)

  hole_last : (words : List PlacedWord) → hole_at (words ++ placed ∷ []) (length words) ≡ holes_by placed.form placed.address true
  hole_last [] = refl
  hole_last (word ∷ words) = hole_last words

  holes_more : (words : List PlacedWord) (opening : Bool) (openers : List ℕ) → AllByRecursion (IsOpenAt source words) openers
      → flat_map (hole_at (words ++ placed ∷ [])) (openers_step opening false (length words) openers)
      ≡ flat_map (hole_at words) openers ++ cond opening (holes_by placed.form placed.address true) []
  holes_more words false openers all = (all_still words openers all).1 ∙ sym (append-nil (flat_map (hole_at words) openers))
  holes_more words true openers all =
      rw (flat_map-append (hole_at (words ++ placed ∷ [])) openers (length words ∷ []), (all_still words openers all).1, hole_last words, append-nil)
      refl

module _ (model : PatchModel) (placed : PlacedWord) (form : Form) (text : List ℕ) (address : ℕ)
    (next : ComesNext model placed form text address) where
  abbrev full : List ℕ
  full = full_name (scope_behind model.source model.words) (name_after_rune text)

  abbrev word : Added
  word = next_word model.labels form text address full

  pub holds_more : (opening : Bool) (old new : Patch) → IsMore model.labels word full opening old new → PatchHolds model old
      → PatchHolds (with_word opening placed model) new
  unfolding byte_at
  holds_more opening old new more so =
      let words = added_in model in
      let same : added_given model.source model.labels model.words placed [] ≡ word = rw (next.read, next.here, next.shape, next.unended) refl in
      let all = each-more (added_given model.source model.labels) (λ b w a c. refl) [] model.words placed ∙ ap (λ w. words ++ w ∷ []) same in
      let spanned : span_of_word model.source placed ≡ added_span word = rw (next.read, next.here, next.shape) refl in
      record {
        ascending = rw (map-append (span_of_word model.source) model.words (placed ∷ []), spanned)
            (ascending_push _ (added_span word) so.ascending next.behind);
        size = rw (more.memory, length-overlaid) so.size;
        each = λ at within. rw (more.memory, all)
            (pushed_read at words word _ (λ some. rw (spans_of model.source model.labels [] model.words) (next.behind some))
            (omega (arith, so.size)) (so.each at within));
        waiting = rw (more.waiting, so.waiting, all, filter-append waits words (word ∷ []), length-append (filter waits words)) refl;
        fits = rw (more.fits, so.fits, all, list_any-append is_far words (word ∷ [])) (grind arith);
        known = λ name. more.known name ∙ so.known name;
        wanted = λ name.
            let all = collected-more (name_hole model.source name) (λ b w a c. refl) [] model.words placed in
            rw (more.wanted name, so.wanted name, ← next.read, ← next.here, ← next.shape, all) (grind arith);
        openers =
            rw (more.openers, so.openers, ← next.here, ← next.shape)
            (sym (holes_more model.source placed model.words opening model.openers next.open_before));
      }

  -- a word that is no reference
  pub holds_put : (old : Patch) (memory : Vec ℕ) → is_reference form ≡ false
      → memory.items ≡ overlaid old.memory.items address (encoded form text 0 0)
      → PatchHolds model old → PatchHolds (with_word false placed model) (record old { memory = memory })
  holds_put old memory bare laid = holds_more false old (record old { memory = memory }) (search rules)

  -- how many wait stays a number of 32 bits
  pub waiting_small : (patch : Patch) → PatchHolds model patch → patch.waiting < 4294967295
  waiting_small patch so =
      let count = length-each (added_given model.source model.labels) [] model.words in
      omega (arith, so.waiting, length-filter waits (added_in model), count_by-le-length waits (added_in model), count, next.few)

-- the bytes of a word that is no reference do not depend on its text, unless it is one
pub few_are : (form : Form) (text : List ℕ) → (form ≡ Text → ⊥) → is_reference form ≡ false → encoded form [] 0 0 ≡ encoded form text 0 0
few_are form text other e = grind arith

pub no_more : (b : Bool) (xs : List Hole) → xs ≡ xs ++ cond b [] []
no_more b xs = grind (arith, append-nil)

bytes_eq-swap : (a b : List ℕ) → bytes_eq a b ≡ bytes_eq b a
bytes_eq-swap a b = grind (arith, (bytes_eq-Decides a b).0, (bytes_eq-Decides b a).0)

-- a name waits where it is the one that is looked up and is not known
module _ (labels : List Label) (hole : Hole) (full name : List ℕ) where
  abbrev waiting : List Hole
  waiting = cond (is_some (address_named labels name)) [] (holes_by (Refer hole.rune) hole.address (bytes_eq name full))

  pub named_waits : waiting ≡ cond (bytes_eq name full) (cond (is_some (address_named labels full)) [] (hole ∷ [])) []
  named_waits = grind (arith, (bytes_eq-Decides name full).0)

length-filled : (target : ℕ) (holes : List Hole) (memory : List ℕ) → length (fold (filled_hole target) memory holes) ≡ length memory
length-filled target [] memory = refl
length-filled target (hole ∷ holes) memory = grind (arith, length-filled target holes (filled_hole target memory hole), length-overlaid)

-- holes get their target
pub holds_settled : (target : ℕ) (model model' : PatchModel) (holes : List Hole) (old new : Patch) (names : Names) (openers : Vec Hole)
    → Settles target (added_in model) (added_in model') holes → AreFilled target holes (record old { names = names; openers = openers }) new
    → map (span_of_word model'.source) model'.words ≡ map (span_of_word model.source) model.words → PatchHolds model old
    → ((name : List ℕ) → known_in names name ≡ address_named model'.labels name)
    → ((name : List ℕ) → wanted_in names name ≡ holes_named model' name)
    → openers.items ≡ flat_map (hole_at model'.words) model'.openers
    → PatchHolds model' new
unfolding byte_at
holds_settled target model model' holes old new names openers settles settled spans so known wanted held =
    let above : AreAscending (map added_span (added_in model)) = rw (spans_of model.source model.labels [] model.words) so.ascending in
    record {
      ascending = rw spans so.ascending;
      size = rw (settled.memory, length-filled) so.size;
      each = λ at within. rw settled.memory (filled_read target at settles old.memory.items above (omega (arith, so.size)) (so.each at within));
      waiting = rw (settled.waiting, so.waiting, fewer_wait target settles) (omega arith);
      fits = rw (settled.fits, so.fits) (sym (fit_too target settles));
      known = λ name. rw settled.names (known name);
      wanted = λ name. rw settled.names (wanted name);
      openers = rw settled.openers held;
    }

-- what is known of names with a label more
pub known_more : (labels : List Label) (label : Label) (name : List ℕ) → address_named labels label.name ≡ None
    → cond (bytes_eq name label.name) (Some label.address) (address_named labels name) ≡ address_named (labels ++ label ∷ []) name
known_more [] label name fresh = grind arith
known_more (first ∷ labels) label name fresh = grind (arith, known_more labels label name, (bytes_eq-Decides name label.name).0)

module _ (source : List ℕ) (labels : List Label) (label : Label) where
  abbrev more : List Label
  more = labels ++ label ∷ []

  module _ (fresh : address_named labels label.name ≡ None) where
    -- which words wait for a name with the label
    pub wanted_more : (name : List ℕ) (holes : List Hole)
        → cond (bytes_eq name label.name) [] (cond (is_some (address_named labels name)) [] holes) ≡ cond (is_some (address_named more name)) [] holes
    wanted_more name holes = rw (← known_more labels label name fresh) (grind arith)

    -- a word by the labels and by one more
    settle_one : (form : Form) (text : List ℕ) (at : ℕ) (lambda before after : Option ℕ) (opening named : Bool)
        (old new : List Added) (holes : List Hole)
        → (named ≡ true → (before ≡ None) × (after ≡ Some label.address)) → (named ≡ false → after ≡ before) → Settles label.address old new holes
        → Settles label.address
        (record { form = form; text = text; address = at; target = form_target form (if opening then lambda else before) } ∷ old)
        (record { form = form; text = text; address = at; target = form_target form (if opening then lambda else after) } ∷ new)
        (holes_by form at (not opening && named) ++ holes)
    settle_one (Refer rune) text at lambda before after true named old new holes here there rest = stays _ rest
    settle_one (Refer rune) text at lambda before after false false old new holes here there rest = rw (there refl) (stays _ rest)
    settle_one (Refer rune) text at lambda before after false true old new holes here there rest =
        rw ((here refl).0, (here refl).1) (fills rune text at rest)
    settle_one form text at lambda before after opening named old new holes here there rest = stays _ rest

    named_after : (full : List ℕ)
        → (bytes_eq label.name full ≡ true → (address_named labels full ≡ None) × (address_named more full ≡ Some label.address))
        × (bytes_eq label.name full ≡ false → address_named more full ≡ address_named labels full)
    named_after full = (
      λ named. rw (sym ((bytes_eq-Decides label.name full).0 named), ← known_more labels label label.name fresh, (bytes_eq-Decides label.name label.name).1 refl)
          (fresh, refl),
      λ other. rw (← known_more labels label full fresh, bytes_eq-swap full label.name, other) refl,
    )

    pub settle_label : (before words : List PlacedWord) → Settles label.address (added source labels before words) (added source more before words)
        (collected (name_hole source label.name) before words)
    settle_label before [] = nothing
    settle_label before (placed ∷ words) =
        let text = expanded_text source placed.word in
        let full = full_name (scope_behind source before) (name_after_rune text) in
        settle_one placed.form text placed.address placed.lambda _ _ (opens text) (bytes_eq label.name full) _ _ _
        (named_after full).0 (named_after full).1 (settle_label (before ++ placed ∷ []) words)

-- the end of a lambda
all_stay : (target : ℕ) (words : List Added) → Settles target words words []
all_stay target [] = nothing
all_stay target (word ∷ words) = stays word (all_stay target words)

module _ (source : List ℕ) where
  -- words behind the same ones have the same full names
  abbrev AreSame : List PlacedWord → List PlacedWord → Type 0
  AreSame before other = map (λ (placed : PlacedWord). placed.word) before ≡ map (λ (placed : PlacedWord). placed.word) other

  more_same : (before other : List PlacedWord) (placed : PlacedWord) → AreSame before other → AreSame (before ++ placed ∷ []) (other ++ placed ∷ [])
  more_same before other placed e = rw (map-append (λ p. p.word) before (placed ∷ []), map-append (λ p. p.word) other (placed ∷ []), e) refl

  same_behind : (before other : List PlacedWord) → AreSame before other → scope_behind source before ≡ scope_behind source other
  unfolding scope_behind
  same_behind before other e = ap (scope_after source) e

  same_added : (labels : List Label) (before other words : List PlacedWord) → AreSame before other
      → added source labels before words ≡ added source labels other words
  same_added labels before other [] e = refl
  same_added labels before other (placed ∷ words) e =
      rw (same_behind before other e, same_added labels (before ++ placed ∷ []) (other ++ placed ∷ []) words (more_same before other placed e)) refl

  same_holes : (name : List ℕ) (before other words : List PlacedWord) → AreSame before other
      → collected (name_hole source name) before words ≡ collected (name_hole source name) other words
  same_holes name before other [] e = refl
  same_holes name before other (placed ∷ words) e =
      rw (same_behind before other e, same_holes name (before ++ placed ∷ []) (other ++ placed ∷ []) words (more_same before other placed e)) refl

  module _ (address : ℕ) where
    ended_same : (before : List PlacedWord) (placed : PlacedWord)
        → AreSame (before ++ record placed { lambda = Some address } ∷ []) (before ++ placed ∷ [])
    ended_same before placed =
        rw (map-append (λ p. p.word) before (placed ∷ []), map-append (λ p. p.word) before (record placed { lambda = Some address } ∷ [])) refl

    settle_at : (labels : List Label) (at : ℕ) (before words : List PlacedWord) → IsOpenAt source words at
        → Settles address (added source labels before words) (added source labels before (closed_at at address words)) (hole_at words at)
    settle_at labels at before [] here = absurd here
    settle_at labels zero before (placed ∷ words) here =
        rw (same_added labels _ _ words (ended_same before placed), here.shape, here.opening, here.unended)
        (fills here.rune (expanded_text source placed.word) placed.address (all_stay address _))
    settle_at labels (suc at) before (placed ∷ words) here = stays _ (settle_at labels at (before ++ placed ∷ []) words here)

    closed_spans : (at : ℕ) (words : List PlacedWord) → map (span_of_word source) (closed_at at address words) ≡ map (span_of_word source) words
    closed_spans at [] = refl
    closed_spans zero (placed ∷ words) = refl
    closed_spans (suc at) (placed ∷ words) = rw (closed_spans at words) refl

    closed_names : (name : List ℕ) (at : ℕ) (before words : List PlacedWord)
        → collected (name_hole source name) before (closed_at at address words) ≡ collected (name_hole source name) before words
    closed_names name at before [] = refl
    closed_names name zero before (placed ∷ words) = rw (same_holes name _ _ words (ended_same before placed)) refl
    closed_names name (suc at) before (placed ∷ words) = rw (closed_names name at (before ++ placed ∷ []) words) refl

    closed_hole : (at : ℕ) (words : List PlacedWord) (other : ℕ) → hole_at (closed_at at address words) other ≡ hole_at words other
    closed_hole at [] other = refl
    closed_hole zero (placed ∷ words) zero = refl
    closed_hole zero (placed ∷ words) (suc other) = refl
    closed_hole (suc at) (placed ∷ words) zero = refl
    closed_hole (suc at) (placed ∷ words) (suc other) = closed_hole at words other

    closed_holes : (at : ℕ) (words : List PlacedWord) (others : List ℕ)
        → flat_map (hole_at (closed_at at address words)) others ≡ flat_map (hole_at words) others
    closed_holes at words [] = refl
    closed_holes at words (other ∷ others) = rw (closed_hole at words other, closed_holes at words others) refl

    open_hole : (words : List PlacedWord) (at : ℕ) → IsOpenAt source words at → (hole : Hole) × (hole_at words at ≡ hole ∷ [])
    open_hole [] at here = absurd here
    open_hole (placed ∷ words) zero here = (record { rune = here.rune; address = placed.address }, rw here.shape refl)
    open_hole (placed ∷ words) (suc at) here = open_hole words at here

-- the last hole of the openers was popped and filled
pub holds_end : (address : ℕ) (model : PatchModel) (left : Vec Hole) (last : Option Hole) (old new : Patch) → AreOpen model → PatchHolds model old
    → old.openers.items ≡ left.items ++ option_to_list last → (0 < length old.openers.items → IsSome last)
    → AreFilled address (option_to_list last) (record old { openers = left }) new → PatchHolds (with_end address model) new
holds_end address model left last old new all so rest some filled = elim (by_last model.openers) [
  | inl none ↦ (
      let parts = both_nil left.items (option_to_list last) (sym rest ∙ so.openers ∙ rw none refl) in
      rw none
      (holds_settled address model (record model { openers = [] }) [] old new old.names left (all_stay address _) (rw parts.1 at filled) refl so
      so.known so.wanted parts.0))
  | inr parts ↦ (
      let words = model.words in
      let here = last_of_all (IsOpenAt model.source words) parts.0 parts.1 (rw parts.2 at all) in
      let hole = open_hole model.source address words parts.1 here in
      let whole : flat_map (hole_at words) parts.0 ++ hole.0 ∷ [] ≡ left.items ++ option_to_list last =
      rw (← hole.1) (sym (rw (parts.2, flat_map-append (hole_at words) parts.0 (parts.1 ∷ []), append-nil) at so.openers) ∙ rest) in
      let long = ap length (whole ∙ sym rest) in
      let found = popped_last _ _ hole.0 last whole (some (omega (arith, long, length-append (flat_map (hole_at words) parts.0) (hole.0 ∷ [])))) in
      let size : length (parts.0 ++ parts.1 ∷ []) - 1 ≡ length parts.0 = omega (arith, length-append parts.0 (parts.1 ∷ [])) in
      rw (parts.2, last_of-more, size, take-append_seam)
      (holds_settled address model _ (hole.0 ∷ []) old new old.names left
      (rw hole.1 at (settle_at model.source address model.labels parts.1 [] words here)) (rw found.0 at filled)
      (closed_spans model.source address parts.1 words) so so.known
      (λ name. rw (closed_names model.source address name parts.1 [] words) (so.wanted name))
      (rw (closed_holes model.source address parts.1 words parts.0) found.1)))
]

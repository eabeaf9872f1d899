-- The components of two texts with a slash between, and which such texts are paths.
use Rattle.std.proofs.Common.{◌≡◌, ℕ, ◌+◌, ◌<◌, ◌≤◌, ◌↔◌, Bool, true, false, ◌&&◌, ◌||◌, eqb, List, [], ◌∷◌, ◌++◌, take, drop, length, get_or, Option, Some, None, IfSome, Result, Ok, refl, ap, sym, subst, ◌∙◌, inl, inr, arith, All}
use Rattle.std.specs.Result.{result_ok}
use Rattle.std.specs.List.{list_all, starts_with, join_with_byte}
use Rattle.std.specs.Option.{option_eq}
use Rattle.std.specs.Str.{is_utf8, IsUtf8, bytes_eq}
use Rattle.std.specs.Prelude.{if◌then◌else◌, nat_eq}
use Rattle.std.proofs.lemmas.Bool.{lt-ltb, le-ltb, ltb-false, and_from, and_parts, or_parts}
use Rattle.std.proofs.lemmas.Bool.Decides.{eqb_tells, Decides-eqb, same_from_decides}
use Rattle.std.proofs.lemmas.List.{length-append, length-take-le, length-drop, length_push, take-append-drop, take_at, drop_more, get_or-drop}
use Rattle.std.proofs.lemmas.List.Elements.{All-from_get_or}
use Rattle.std.proofs.lemmas.List.Folds.{list_all-append}
use Rattle.std.proofs.lemmas.List.Splits.{slice_split_none, join_with_byte-slice_split}
use Rattle.std.proofs.lemmas.Slice.Eq.{slice_eq-Decides, bytes_eq-Decides}
use Rattle.std.proofs.lemmas.Str.{encode_ascii, IsUtf8-append, IsUtf8-from_is_utf8, is_utf8-from_IsUtf8, IsUtf8-take, IsUtf8-drop, IsCharBoundary-before_ascii, IsCharBoundary-after_ascii}
use Rattle.uxn_io_traits.specs.declared.paths.PathFault.{PathFault}
use Rattle.uxn_io_traits.specs.PathText.{path_of, components, is_component, is_too_long, joined, parent_from, parent_of, child_name, is_under, HasNoSlashFrom, IsLastSlash, ContinuesAfter}
use Rattle.uxn_io_traits.specs.PathLaws.{length-components, components-append, is_under-Decides}
use Rattle.uxn_io_traits.proofs.PathLemmas.{answer_of, path_of-tests}

above_zero : (n : ℕ) → 0 < n → false ≡ eqb n 0
above_zero n some = elim (eqb_tells n 0) [ inl h ↦ absurd (omega (arith, h.1)) | inr h ↦ sym h.0 ]

other_byte : (b : ℕ) → (b ≡ 47 → ⊥) → eqb b 47 ≡ false
other_byte b other = elim (eqb_tells b 47) [ inl h ↦ absurd (other h.1) | inr h ↦ h.0 ]

good_of : (text : List ℕ) (empty good long : Bool) → answer_of text empty good long ≡ Ok text → good ≡ true
good_of text true good long e = cc
good_of text false true long e = refl
good_of text false false long e = cc

short_of : (text : List ℕ) (empty good long : Bool) → answer_of text empty good long ≡ Ok text → long ≡ false
short_of text true good long e = cc
short_of text false false long e = cc
short_of text false true true e = cc
short_of text false true false e = refl

path_is_good : (text : List ℕ) → path_of text ≡ Ok text → (is_utf8 text ≡ true) × (list_all is_component (components text) ≡ true)
unfolding path_of
path_is_good text e = and_parts (is_utf8 text) (list_all is_component (components text)) (good_of text _ _ _ e)

path_is_short : (text : List ℕ) → path_of text ≡ Ok text → is_too_long text ≡ false
unfolding path_of
path_is_short text e = short_of text _ _ _ e

-- a path has at most 255 bytes, and at most 16 components
pub path_bytes : (text : List ℕ) → path_of text ≡ Ok text → length text ≤ 255
path_bytes text e = ltb-false 255 (length text) (or_parts _ _ (path_is_short text e)).1

pub path_components : (text : List ℕ) → path_of text ≡ Ok text → length (components text) ≤ 16
path_components text e = ltb-false 16 (length (components text)) (or_parts _ _ (path_is_short text e)).0

not_long : (text : List ℕ) → length (components text) ≤ 16 → length text ≤ 255 → is_too_long text ≡ false
not_long text few short i = le-ltb 16 (length (components text)) few i || le-ltb 255 (length text) short i

IsUtf8-slash : IsUtf8 (47 ∷ [])
IsUtf8-slash = (47 ∷ [], (refl, ap (λ (z : List ℕ). z ++ []) (encode_ascii 47 (omega arith))))

-- two paths with a slash between are well formed
good_joined : (text tail : List ℕ) → path_of text ≡ Ok text → path_of tail ≡ Ok tail → (is_utf8 (text ++ 47 ∷ tail) && list_all is_component (components (text ++ 47 ∷ tail))) ≡ true
good_joined text tail a b =
    let first = path_is_good text a in
    let rest = path_is_good tail b in
    and_from _ _
    (is_utf8-from_IsUtf8 _
    (IsUtf8-append text (47 ∷ tail) (IsUtf8-from_is_utf8 text first.0) (IsUtf8-append (47 ∷ []) tail IsUtf8-slash (IsUtf8-from_is_utf8 tail rest.0))))
    (ap (list_all is_component) (components-append text tail) ∙ list_all-append is_component (components text) (components tail) ∙ and_from _ _ first.1 rest.1)

chosen : (whole : List ℕ) (long : Bool) → result_ok (answer_of whole false true long) ≡ (if long then None else Some whole)
chosen whole true = refl
chosen whole false = refl

-- reading two paths with a slash between gives the joined path
pub joined_answer : (text tail : List ℕ) → path_of text ≡ Ok text → path_of tail ≡ Ok tail → result_ok (path_of (text ++ 47 ∷ tail)) ≡ joined text tail
unfolding joined
joined_answer text tail a b =
    ap (λ (r : Result (List ℕ) PathFault). result_ok r)
    (path_of-tests (text ++ 47 ∷ tail) false true (is_too_long (text ++ 47 ∷ tail)) (above_zero _ (omega (arith, length-append text (47 ∷ tail)))) (sym (good_joined text tail a b)) refl)
    ∙ chosen (text ++ 47 ∷ tail) _

no_slash_all : (text : List ℕ) (from : ℕ) → HasNoSlashFrom text from → All (λ b. eqb b 47 ≡ false) (drop from text)
no_slash_all text from none =
    All-from_get_or (λ b. eqb b 47 ≡ false) (drop from text) 0
    (λ k lt. other_byte _ (λ e. none (from + k) (omega arith) (omega (arith, length-drop from text)) (sym (get_or-drop from text k 0) ∙ e)))

-- a text without a slash has one component, and no parent
pub no_parent : (text : List ℕ) → HasNoSlashFrom text 0 → None ≡ parent_of text
unfolding parent_of
no_parent text none = sym (ap parent_from (slice_split_none (λ b. eqb b 47) text (no_slash_all text 0 none)))

parent_push : (names : List (List ℕ)) (last : List ℕ) → 0 < length names → parent_from (names ++ last ∷ []) ≡ Some (join_with_byte 47 names)
parent_push names last some =
    let n = length_push names last in
    rw (lt-ltb 1 (length (names ++ last ∷ [])) (omega arith))
    (ap (λ (z : List (List ℕ)). Some (join_with_byte 47 z)) (take_at names (last ∷ []) _ (omega arith)))

at_slash : (text : List ℕ) (at : ℕ) → IsLastSlash text at → text ≡ take at text ++ 47 ∷ drop (at + 1) text
at_slash text at is =
    sym (take-append-drop at text)
    ∙ ap (λ (z : List ℕ). take at text ++ z) (drop_more text at 0 is.within ∙ ap (λ (b : ℕ). b ∷ drop (at + 1) text) is.slash)

names_at_slash : (text : List ℕ) (at : ℕ) → IsLastSlash text at → components text ≡ components (take at text) ++ drop (at + 1) text ∷ []
names_at_slash text at is =
    ap components (at_slash text at is)
    ∙ components-append (take at text) (drop (at + 1) text)
    ∙ ap (λ (z : List (List ℕ)). components (take at text) ++ z) (slice_split_none (λ b. eqb b 47) (drop (at + 1) text) (no_slash_all text (at + 1) is.last))

some_byte : (text : List ℕ) → list_all is_component (components text) ≡ true → 0 < length text
some_byte [] e = cc
some_byte (x ∷ text) e = omega arith

-- what stands before the last slash of a path is a path
prefix_is_path : (text : List ℕ) (at : ℕ) → path_of text ≡ Ok text → IsLastSlash text at → path_of (take at text) ≡ Ok (take at text)
prefix_is_path text at path is =
    let good = path_is_good text path in
    let names = names_at_slash text at is in
    let count = ap length names ∙ length_push (components (take at text)) (drop (at + 1) text) in
    let size = length-take-le at text (omega (arith, is.within)) in
    let all = (and_parts (list_all is_component (components (take at text))) (list_all is_component (drop (at + 1) text ∷ [])) (sym (list_all-append is_component (components (take at text)) (drop (at + 1) text ∷ [])) ∙ ap (list_all is_component) (sym names) ∙ good.1)).0 in
    path_of-tests (take at text) false true false
    (above_zero _ (some_byte _ all))
    (sym (and_from _ _ (is_utf8-from_IsUtf8 _ (IsUtf8-take text at (IsUtf8-from_is_utf8 text good.0) (IsCharBoundary-before_ascii text at is.within (omega (arith, is.slash))))) all))
    (sym (not_long (take at text) (omega (arith, path_components text path)) (omega (arith, path_bytes text path, is.within))))

-- reading what stands before the last slash gives the parent
pub parent_answer : (text : List ℕ) (at : ℕ) → path_of text ≡ Ok text → IsLastSlash text at → result_ok (path_of (take at text)) ≡ parent_of text
unfolding parent_of
parent_answer text at path is =
    ap (λ (r : Result (List ℕ) PathFault). result_ok r) (prefix_is_path text at path is)
    ∙ sym (ap parent_from (names_at_slash text at is) ∙ parent_push (components (take at text)) _ (length-components (take at text)) ∙ ap (λ (z : List ℕ). Some z) (join_with_byte-slice_split 47 (take at text)))

-- a test of the text decides whether the components are a proper prefix
pub under_answer : (text other : List ℕ) (b : Bool) → ((b ≡ true) ↔ ContinuesAfter text other) → b ≡ is_under text other
under_answer text other b h = same_from_decides b (is_under text other) (h.0, h.1) (is_under-Decides text other)

-- the tests by which the text is observed to continue
pub continues_from : (text other : List ℕ) (b : Bool) → length other < length text → get_or text (length other) 0 ≡ 47 → b ≡ starts_with nat_eq text other → (b ≡ true) ↔ ContinuesAfter text other
continues_from text other b longer slash is =
    let D = slice_eq-Decides Decides-eqb other (take (length other) text) b is in (
      λ e. (
        drop (length other + 1) text,
        sym (take-append-drop (length other) text)
            ∙ (λ i. sym (D.0 e) i ++ drop_more text (length other) 0 longer i)
            ∙ ap (λ (z : ℕ). other ++ z ∷ drop (length other + 1) text) slash,
      ),
      λ h. D.1 (sym (ap (take (length other)) h.1 ∙ take_at other (47 ∷ h.0) _ refl)),
    )

-- what stands behind the last slash of a path is a path of one component
pub tail_is_path : (text : List ℕ) (at : ℕ) → path_of text ≡ Ok text → IsLastSlash text at → path_of (drop (at + 1) text) ≡ Ok (drop (at + 1) text)
tail_is_path text at path is =
    let good = path_is_good text path in
    let names = names_at_slash text at is in
    let one : components (drop (at + 1) text) ≡ drop (at + 1) text ∷ [] = slice_split_none (λ b. eqb b 47) (drop (at + 1) text) (no_slash_all text (at + 1) is.last) in
    let all : list_all is_component (components (drop (at + 1) text)) ≡ true = ap (list_all is_component) one ∙ (and_parts (list_all is_component (components (take at text))) (list_all is_component (drop (at + 1) text ∷ [])) (sym (list_all-append is_component (components (take at text)) (drop (at + 1) text ∷ [])) ∙ ap (list_all is_component) (sym names) ∙ good.1)).1 in
    let utf8 = IsUtf8-from_is_utf8 text good.0 in
    path_of-tests (drop (at + 1) text) false true false
    (above_zero _ (some_byte _ all))
    (sym (and_from _ _ (is_utf8-from_IsUtf8 _ (IsUtf8-drop text (at + 1) utf8 (IsCharBoundary-after_ascii text at utf8 is.within (omega (arith, is.slash))))) all))
    (sym (not_long (drop (at + 1) text) (omega (arith, ap length one)) (omega (arith, path_bytes text path, length-drop (at + 1) text))))

parent_at : (text : List ℕ) (at : ℕ) → path_of text ≡ Ok text → IsLastSlash text at → parent_of text ≡ Some (take at text)
parent_at text at path is = sym (parent_answer text at path is) ∙ ap (λ (r : Result (List ℕ) PathFault). result_ok r) (prefix_is_path text at path is)

-- the name of a path in its folder
pub name_there : (folder text : List ℕ) (at : ℕ) → path_of text ≡ Ok text → IsLastSlash text at → true ≡ bytes_eq (take at text) folder → result_ok (path_of (drop (at + 1) text)) ≡ child_name folder text
name_there folder text at path is same =
    let whole : take at text ≡ folder = (bytes_eq-Decides (take at text) folder).0 (sym same) in
    let size : at ≡ length folder = sym (length-take-le at text (omega (arith, is.within))) ∙ ap length whole in
    ap (λ (r : Result (List ℕ) PathFault). result_ok r) (tail_is_path text at path is)
    ∙ ap (λ (k : ℕ). Some (drop (k + 1) text)) size
    ∙ ap (λ (b : Bool). if b then Some (drop (length folder + 1) text) else None) same
    ∙ ap (λ (o : Option (List ℕ)). if option_eq bytes_eq o (Some folder) then Some (drop (length folder + 1) text) else None) (sym (parent_at text at path is))

pub name_elsewhere : (folder text : List ℕ) (at : ℕ) → path_of text ≡ Ok text → IsLastSlash text at → false ≡ bytes_eq (take at text) folder → None ≡ child_name folder text
name_elsewhere folder text at path is other =
    ap (λ (b : Bool). if b then Some (drop (length folder + 1) text) else None) other
    ∙ ap (λ (o : Option (List ℕ)). if option_eq bytes_eq o (Some folder) then Some (drop (length folder + 1) text) else None) (sym (parent_at text at path is))

pub name_nowhere : (folder text : List ℕ) → HasNoSlashFrom text 0 → None ≡ child_name folder text
name_nowhere folder text none =
    ap (λ (o : Option (List ℕ)). if option_eq bytes_eq o (Some folder) then Some (drop (length folder + 1) text) else None) (no_parent text none)

one_parent : (text : List ℕ) (at : ℕ) → IsLastSlash text at → parent_of (drop (at + 1) text) ≡ None
unfolding parent_of
one_parent text at is = ap parent_from (slice_split_none (λ b. eqb b 47) (drop (at + 1) text) (no_slash_all text (at + 1) is.last))

-- and has one component
pub one_name : (text : List ℕ) (at : ℕ) (name : Option (List ℕ)) → path_of text ≡ Ok text → IsLastSlash text at → name ≡ result_ok (path_of (drop (at + 1) text)) → IfSome name (λ one. parent_of one ≡ None)
one_name text at name path is read =
    let P : Option (List ℕ) → Type 0 = λ o. IfSome o (λ one. parent_of one ≡ None) in
    subst P (sym (read ∙ ap (λ (r : Result (List ℕ) PathFault). result_ok r) (tail_is_path text at path is))) (one_parent text at is)

-- The names of the operations, one at a time, and that each name is read as its byte.
use Rattle.std.proofs.Common.{◌≡◌, ℕ, suc, zero, ◌+◌, ◌<◌, ◌≤◌, Bool, true, false, ◌&&◌, ◌==◌, cond, List, [], get_or, drop, Option, Some, None, refl}
use Rattle.std.proofs.Common.{ap, ap₂, ◌∙◌, min, take, length, inl, inr, arith}
use Rattle.std.specs.Str.{bytes_eq}
use Rattle.std.specs.List.{position_from}
use Rattle.std.proofs.lemmas.List.{at_drop_more, at_drop_all, take_min, drop_min}
use Rattle.std.proofs.lemmas.Bool.{and_parts, cases_lt, eqb-true}
use Rattle.uxn_opcodes.specs.Table.{mode_of}
use Rattle.tal_words.specs.Opcodes.{operation_names, moded_byte, byte_of_op, name_of_op}

-- the search among the operations from one on
pub position-more : (name : List ℕ) (code : ℕ) → code < 32
    → position_from (bytes_eq name) code (drop code operation_names)
    ≡ cond (bytes_eq name (get_or operation_names code [])) (Some code) (position_from (bytes_eq name) (code + 1) (drop (code + 1) operation_names))
position-more name code within = at_drop_more (position_from (bytes_eq name) code) operation_names code [] within

-- the answer is this byte
abbrev reads : Option ℕ → ℕ → Bool
reads None byte = false
reads (Some found) byte = found == byte

reads-some : (answer : Option ℕ) (byte : ℕ) → reads answer byte ≡ true → answer ≡ Some byte
reads-some None byte h = cc
reads-some (Some found) byte h = ap Some (eqb-true found byte h)

-- a test that holds of each number below a bound
abbrev pub passes_below : (ℕ → Bool) → ℕ → Bool
passes_below test zero = true
passes_below test (suc bound) = test bound && passes_below test bound

pub passes_below-at : (test : ℕ → Bool) (bound n : ℕ) → passes_below test bound ≡ true → n < bound → test n ≡ true
passes_below-at test zero n h below = absurd (omega arith)
passes_below-at test (suc bound) n h below =
    let parts = and_parts (test bound) (passes_below test bound) h in
    elim (cases_lt n bound) [
      | inl less ↦ passes_below-at test bound n parts.1 less
      | inr not_less ↦ (let e : n ≡ bound = omega arith in rw e parts.0)
    ]

pub name_read : (byte : ℕ) → byte < 256 → byte_of_op (name_of_op byte) ≡ Some byte
unfolding byte_of_op name_of_op mode_of
name_read byte below =
    reads-some (byte_of_op (name_of_op byte)) byte (passes_below-at (λ byte. reads (byte_of_op (name_of_op byte)) byte) 256 byte refl below)

pub position-end : (name : List ℕ) (code : ℕ) → 32 ≤ code → position_from (bytes_eq name) code (drop code operation_names) ≡ None
position-end name code past = at_drop_all (position_from (bytes_eq name) code) operation_names code past

pub ruleset operation_steps = (position-more, position-end)

-- the byte of a word that was cut behind its third letter
pub moded-cut : (names : List (List ℕ)) (word name modes : List ℕ) (cut : ℕ) (found answer : Option ℕ)
    → cut ≡ min (length word) 3 → name ≡ take cut word → modes ≡ drop cut word
    → found ≡ position_from (bytes_eq name) 0 names → answer ≡ moded_byte found modes
    → answer ≡ moded_byte (position_from (bytes_eq (take 3 word)) 0 names) (drop 3 word)
moded-cut names word name modes cut found answer is_cut is_name are_modes is_found is_answer =
    let is_three : cut ≡ min 3 (length word) = omega (arith, is_cut) in
    let prefix : name ≡ take 3 word = is_name ∙ ap (λ n. take n word) is_three ∙ take_min 3 word in
    let back : modes ≡ drop 3 word = are_modes ∙ ap (λ n. drop n word) is_three ∙ drop_min 3 word in
    is_answer ∙ ap₂ moded_byte (is_found ∙ ap (λ n. position_from (bytes_eq n) 0 names) prefix) back

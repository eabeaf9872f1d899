-- How a file is cut into entries, one entry at a time.
use Rattle.std.proofs.Common.{◌≡◌, ℕ, suc, ◌+◌, ◌*◌, ◌<◌, ◌≤◌, Bool, true, cond, List, [], ◌∷◌, ◌++◌, length, take, drop, min, Option, Some, None}
use Rattle.std.proofs.Common.{refl, ap, arith}
use Rattle.std.specs.Prelude.{◌==◌, not}
use Rattle.std.specs.List.{position_or_len, list_any}
use Rattle.std.proofs.lemmas.Grind.{common_steps}
use Rattle.std.proofs.lemmas.Bool.{le-leb}
use Rattle.std.proofs.lemmas.Bool.Decides.{nat_tests}
use Rattle.std.proofs.lemmas.List.Sums.{take_while-cons}
use Rattle.tal_symbols.specs.Reading.{entries, entries_after, entry_fault, bad_name, name_before_zero, label_of_entry}
use Rattle.tal_symbols.specs.Answers.{entry_length}
use Rattle.tal_symbols.specs.declared.stop.SymbolKind.{SymbolKind}
use Rattle.tal_symbols.specs.declared.stop.SymbolKind.TheVariants.{Torn}

-- how many bytes of a text belong to an entry whose address bytes stand before it
abbrev name_end : List ℕ → ℕ
name_end [] = 0
name_end (b ∷ text) = cond (b == 0) 1 (suc (name_end text))

end_is : (text : List ℕ) → 2 + min (position_or_len (λ byte. byte == 0) text + 1) (length text) ≡ suc (suc (name_end text))
end_is [] = omega arith
end_is (b ∷ text) = grind (arith, end_is text)

-- a text behind address bytes is cut at its first zero byte
cut_name : (text : List ℕ) (b before : ℕ) → 2 ≤ before
    → entries_after before (b ∷ text) ≡ take (name_end (b ∷ text)) (b ∷ text) ∷ entries (drop (name_end (b ∷ text)) (b ∷ text))
cut_name [] b before behind = rw (le-leb 2 before behind) (grind arith)
cut_name (c ∷ text) b before behind = rw (le-leb 2 before behind, cut_name text c (before + 1) (omega arith)) (grind arith)

-- the first entry of a file
pub cut_entry : (rest : List ℕ) → 0 < length rest → entries rest ≡ take (entry_length rest) rest ∷ entries (drop (entry_length rest) rest)
cut_entry [] some = absurd (omega arith)
cut_entry (a ∷ []) some = refl
cut_entry (a ∷ b ∷ []) some = refl
cut_entry (a ∷ b ∷ c ∷ text) some = rw (end_is (c ∷ text), cut_name text c 2 (omega arith)) refl

pub entry_length-some : (rest : List ℕ) → 0 < length rest → 0 < entry_length rest
entry_length-some rest some = grind (arith, common_steps)

pub entry_length-within : (rest : List ℕ) → entry_length rest ≤ length rest
entry_length-within rest = grind (arith, common_steps)

-- the first entry has a zero byte where what is left has one, and its name is the same
same_zero : (text : List ℕ) → list_any (λ byte. byte == 0) (take (name_end text) text) ≡ list_any (λ byte. byte == 0) text
same_zero [] = refl
same_zero (b ∷ text) = grind (arith, same_zero text)

name-cons : (b : ℕ) (text : List ℕ) → name_before_zero (b ∷ text) ≡ cond (b == 0) [] (b ∷ name_before_zero text)
name-cons b text = rw (take_while-cons (λ byte. not (byte == 0)) b text) (grind arith)

same_name : (text : List ℕ) → name_before_zero (take (name_end text) text) ≡ name_before_zero text
same_name [] = refl
same_name (b ∷ text) = grind (arith, same_name text, name-cons b text, name-cons b [], name-cons b (take (name_end text) text))

-- the first entry has the fault that is found in what is left
pub same_fault : (rest : List ℕ) → entry_fault (take (entry_length rest) rest) ≡ entry_fault rest
same_fault [] = refl
same_fault (a ∷ []) = refl
same_fault (a ∷ b ∷ text) = rw (end_is text, same_zero text, same_name text) refl

-- a name up to its zero byte
whole_name : (text : List ℕ) → list_any (λ byte. byte == 0) text ≡ true → take (name_end text) text ≡ name_before_zero text ++ 0 ∷ []
whole_name [] e = cc
whole_name (b ∷ text) e = grind (arith, nat_tests, whole_name text, name-cons b text)

-- the parts of an entry without a fault
pub record IsWhole (rest : List ℕ) : Type 0 where
  pub high : ℕ
  pub low : ℕ
  pub text : List ℕ
  pub parts : rest ≡ high ∷ low ∷ text
  pub named : bad_name (name_before_zero text) ≡ None
  pub cut : take (entry_length rest) rest ≡ high ∷ low ∷ (name_before_zero text ++ 0 ∷ [])
  pub labelled : label_of_entry (take (entry_length rest) rest) ≡ record { name = name_before_zero text; address = 256 * high + low }

without_fault : (has : Bool) (bad : Option SymbolKind) → cond has bad (Some Torn) ≡ None → (has ≡ true) × (bad ≡ None)
without_fault has bad e = grind arith

pub whole_entry : (rest : List ℕ) → entry_fault rest ≡ None → IsWhole rest
whole_entry [] sound = cc
whole_entry (a ∷ []) sound = cc
whole_entry (a ∷ b ∷ text) sound =
    let known = without_fault _ _ sound in
    record {
      high = a;
      low = b;
      text = text;
      parts = refl;
      named = known.1;
      cut = rw (end_is text) (ap (λ (name : List ℕ). a ∷ b ∷ name) (whole_name text known.0));
      labelled = rw (end_is text, same_name text) refl;
    }

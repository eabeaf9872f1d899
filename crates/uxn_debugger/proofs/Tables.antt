-- How a table is printed, byte by byte.
use Rattle.std.proofs.lemmas.Grind.{common_steps}
use Rattle.std.proofs.Common.{◌≡◌, ℕ, zero, suc, ◌+◌, List, ◌++◌, append-nil, append_assoc, refl, sym, ap, ◌∙◌, arith}
use Rattle.std.specs.List.{flat_map, range_with_len}
use Rattle.uxn_debugger.specs.Printing.{in_lines, table}

flat_range_suc : (f : ℕ → List ℕ) (a n j : ℕ) → a + n ≡ j → flat_map f (range_with_len a (suc n)) ≡ flat_map f (range_with_len a n) ++ f j
flat_range_suc f a zero j is = let same : a ≡ j = omega arith in rw same (append-nil (f j))
flat_range_suc f a (suc n) j is = ap (λ more. f a ++ more) (flat_range_suc f (a + 1) n j (omega arith)) ∙ sym (append_assoc (f a) (flat_map f (range_with_len (a + 1) n)) (f j))

-- the next part is put
pub part_put : (f : ℕ → List ℕ) (n : ℕ) (log log0 log1 part : List ℕ) → log0 ≡ log ++ flat_map f (range_with_len 0 n) → log1 ≡ log0 ++ part
    → part ≡ f n → log1 ≡ log ++ flat_map f (range_with_len 0 (n + 1))
part_put = grind (arith, common_steps, flat_range_suc)

-- all parts make the table
pub table_at : (name : ℕ → List ℕ) (byte : ℕ → ℕ) (count at : ℕ) → at ≡ count → flat_map (in_lines name byte count) (range_with_len 0 at) ≡ table name byte count
unfolding table
table_at name byte count at is = rw is refl

-- Full names with what is known of them, after a change.
use Rattle.tal_rom.proofs.Common.{◌≡◌, ℕ, false, List, [], ◌∷◌, ◌++◌, Option, Some, cond, refl, arith, append-nil, Vec, bytes_eq, vec_eq, Hole, Named}
use Rattle.tal_rom.proofs.Common.{bytes_eq-Decides, known_address, wanted_of}
use Rattle.std.specs.Map.{lookup, set_value}
use Rattle.indexmap.specs.IndexMap.{insert_entry}

abbrev pub Entries : Type 0
Entries = List (Vec ℕ × Named)

abbrev pub found : Entries → List ℕ → Option Named
found entries name = lookup (λ key. bytes_eq name key.items) entries

-- what is found where a name has this value
abbrev put : (List ℕ → Option Named) → List ℕ → Named → List ℕ → Option Named
put find name named other = cond (bytes_eq other name) (Some named) (find other)

-- a name has another value, and the others have what they had
pub record Changes (old new : Entries) (name : List ℕ) (named : Named) : Type 0 where
  pub at : (other : List ℕ) → found new other ≡ put (found old) name named other

-- the value stands in the first entry, or in one of the others
changed : (entries next : Entries) (key : Vec ℕ) (first value : Named) (name other : List ℕ)
    → (bytes_eq name key.items ≡ false → found next other ≡ put (found entries) name value other)
    → found (cond (bytes_eq name key.items) ((key, value) ∷ entries) ((key, first) ∷ next)) other
    ≡ put (found ((key, first) ∷ entries)) name value other
changed entries next key first value name other rest = grind (arith, (bytes_eq-Decides name key.items).0, (bytes_eq-Decides other name).0)

found_set : (entries : Entries) (name : List ℕ) (old value : Named) (other : List ℕ) → found entries name ≡ Some old
    → found (set_value (λ key. bytes_eq name key.items) entries value) other ≡ put (found entries) name value other
found_set [] name old value other e = cc
found_set (entry ∷ entries) name old value other e =
    changed entries _ entry.0 entry.1 value name other (λ later. found_set entries name old value other (rw later at e))

found_insert : (entries : Entries) (name : Vec ℕ) (value : Named) (other : List ℕ)
    → found (insert_entry vec_eq entries name value) other ≡ put (found entries) name.items value other
found_insert [] name value other = refl
found_insert (entry ∷ entries) name value other =
    changed entries _ entry.0 entry.1 value name.items other (λ later. found_insert entries name value other)

pub inserts : (old new : Entries) (name : Vec ℕ) (named : Named) → new ≡ insert_entry vec_eq old name named → Changes old new name.items named
inserts old new name named e = record { at = λ other. rw e (found_insert old name named other) }

pub sets : (old new : Entries) (name : List ℕ) (before named : Named) → new ≡ set_value (λ key. bytes_eq name key.items) old named
    → found old name ≡ Some before → Changes old new name named
sets old new name before named e there = record { at = λ other. rw e (found_set old name before named other there) }

-- what is then known of names: where the name is defined, and where one more reference or none waits for it
module _ (old new : Entries) (name : List ℕ) (named : Named) (changes : Changes old new name named) (other : List ℕ) where
  pub known_same : named.address ≡ known_address (found old name) → known_address (found new other) ≡ known_address (found old other)
  known_same e = rw (changes.at other) (grind (arith, (bytes_eq-Decides other name).0))

  pub wanted_same : named.holes.items ≡ wanted_of (found old name) → wanted_of (found new other) ≡ wanted_of (found old other)
  wanted_same e = rw (changes.at other) (grind (arith, (bytes_eq-Decides other name).0))

  pub wanted_more : (more : List Hole) → named.holes.items ≡ wanted_of (found old name) ++ more
      → wanted_of (found new other) ≡ wanted_of (found old other) ++ cond (bytes_eq other name) more []
  wanted_more more e = rw (changes.at other) (grind (arith, (bytes_eq-Decides other name).0, append-nil))

  pub known_defined : (address : ℕ) → named.address ≡ Some address
      → known_address (found new other) ≡ cond (bytes_eq other name) (Some address) (known_address (found old other))
  known_defined address e = rw (changes.at other) (grind arith)

  pub wanted_defined : named.holes.items ≡ [] → wanted_of (found new other) ≡ cond (bytes_eq other name) [] (wanted_of (found old other))
  wanted_defined e = rw (changes.at other) (grind arith)

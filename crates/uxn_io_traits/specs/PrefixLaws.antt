-- Laws of files that are made and then added to: where only a prefix of the changes was made, a prefix of what the file is to hold stands there.
use Rattle.std.specs.Prelude.{◌≡◌, ℕ, Bool, true, false, ◌⊎◌, List, [], ◌∷◌, ◌++◌, Option, Some, None, refl}
use Rattle.std.specs.Option.{option_map}
use Rattle.std.specs.List.{list_any, AllByRecursion}
use Rattle.std.specs.Str.{bytes_eq}
use Rattle.std.proofs.Common.{ap, sym, ◌∙◌, subst, cond, inl, inr, arith, append_assoc}
use Rattle.std.proofs.lemmas.Grind.{common_steps}
use Rattle.std.proofs.lemmas.List.{append-nil}
use Rattle.uxn_io_traits.specs.Files.{Node, File}
use Rattle.uxn_io_traits.specs.Outside.{Change, ToOut, ToErr, Creates, ToFile, Removes, World, changed_by}
use Rattle.uxn_io_traits.specs.Ended.{creating_all}
use Rattle.uxn_io_traits.specs.AtPath.{contents_at, Adds, Spares, HoldsFilePrefix}
use Rattle.uxn_io_traits.specs.AtPathLaws.{node_after, node_by, node-append, contents-by}
use Rattle.uxn_io_traits.specs.EachLaws.{each-parts}

-- what leaves a path alone makes nothing there
pub spares-adds : (path : List ℕ) (change : Change) → Spares path change → Adds path change
spares-adds path (ToOut byte) spares = tt
spares-adds path (ToErr byte) spares = tt
spares-adds path (Creates other) spares = spares
spares-adds path (ToFile other byte) spares = tt
spares-adds path (Removes other) spares = spares

module _ (path : List ℕ) where
  -- where a file is made what stood there does not count
  pub made-by : (paths : List (List ℕ)) (rest : List Change) (m n : Option Node) → list_any (bytes_eq path) paths ≡ true
      → node_by path (creating_all paths ++ rest) m ≡ node_by path (creating_all paths ++ rest) n
  made-by [] rest m n among = absurd cc
  made-by (other ∷ paths) rest m n among =
      let later = made-by paths rest (node_after path (Creates other) m) (node_after path (Creates other) n) in grind (arith, common_steps, later)

  -- the file at the path gets more bytes
  abbrev GetsMore : List ℕ → List Change → Type 0
  GetsMore bytes changes = (more : List ℕ) × (node_by path changes (Some (File bytes)) ≡ Some (File (bytes ++ more)))

  added : (bytes : List ℕ) (changes : List Change) → AllByRecursion (Adds path) changes → GetsMore bytes changes
  added bytes [] adds = ([], ap (λ b. Some (File b)) (sym (append-nil bytes)))
  added bytes (ToOut byte ∷ changes) adds = added bytes changes adds.1
  added bytes (ToErr byte ∷ changes) adds = added bytes changes adds.1
  added bytes (Creates other ∷ changes) adds = rw adds.0 (added bytes changes adds.1)
  added bytes (Removes other ∷ changes) adds = rw adds.0 (added bytes changes adds.1)
  added bytes (ToFile other byte ∷ changes) adds = go (bytes_eq path other) (λ first. added first changes adds.1)
    where
      go : (b : Bool) → ((first : List ℕ) → GetsMore first changes)
          → (more : List ℕ)
          × (node_by path changes (cond b (Some (File (bytes ++ byte ∷ []))) (Some (File bytes))) ≡ Some (File (bytes ++ more)))
      go false rest = rest bytes
      go true rest = let all = rest (bytes ++ byte ∷ []) in
          (byte ∷ all.0, all.1 ∙ ap (λ b. Some (File b)) (append_assoc bytes (byte ∷ []) all.0))

  -- a file is made among others, all of which are then added to
  module _ (later rest : List Change) (adds : AllByRecursion (Adds path) later) (before : Option Node) where
    abbrev Prefixes : Option Node → List Change → Type 0
    Prefixes there made = HoldsFilePrefix (Some before) (Some (node_by path made there)) (Some (node_by path (made ++ rest) there))

    made-prefix : (made : List Change) → later ≡ made ++ rest → Prefixes (Some (File [])) made
    made-prefix made parts =
        let all = each-parts (Adds path) made rest (subst (AllByRecursion (Adds path)) parts adds) in
        let first = added [] made all.0 in
        let last = added first.0 rest all.1 in
        let whole = node-append path made rest (Some (File [])) ∙ ap (node_by path rest) first.1 ∙ last.1 in
        inr (first.0, last.0, ap (λ node. Some node) first.1, ap (λ node. Some node) whole)

    created : (paths : List (List ℕ)) → node_by path (creating_all paths) (Some (File [])) ≡ Some (File [])
    created [] = refl
    created (other ∷ paths) = let rest = created paths in grind (arith, common_steps, rest)

    -- it waits to be made, or is made and empty
    abbrev Waits : List (List ℕ) → Option Node → Type 0
    Waits paths there = ((there ≡ before) × (list_any (bytes_eq path) paths ≡ true)) ⊎ (there ≡ Some (File []))

    prefix-of : (paths : List (List ℕ)) (there : Option Node) (made : List Change) → creating_all paths ++ later ≡ made ++ rest
        → Waits paths there → Prefixes there made
    prefix-of [] there made parts (inl waits) = absurd (let among = waits.1 in cc)
    prefix-of [] there made parts (inr is) = rw is (made-prefix made parts)
    prefix-of (other ∷ paths) there [] parts (inl waits) = inl (ap (λ node. Some node) waits.0)
    prefix-of (other ∷ paths) there [] parts (inr is) =
        let all = added [] later adds in
        let first = node-append path (creating_all (other ∷ paths)) later (Some (File [])) in
        let whole = ap (λ changes. node_by path changes (Some (File []))) (sym parts) ∙ first
        ∙ ap (node_by path later) (created (other ∷ paths)) ∙ all.1 in
        rw is (inr ([], all.0, refl, ap (λ node. Some node) whole))
    prefix-of (other ∷ paths) there (change ∷ made) parts state =
        let same : Creates other ≡ change = cc in
        let more : creating_all paths ++ later ≡ made ++ rest = cc in
        subst (λ (c : Change). Prefixes there (c ∷ made)) same
        (prefix-of paths (node_after path (Creates other) there) made more (grind (arith, common_steps)))

-- so of what is known to stand there
pub file-prefix : (path : List ℕ) (paths : List (List ℕ)) (later made rest : List Change) (before : World)
    → list_any (bytes_eq path) paths ≡ true → AllByRecursion (Adds path) later
    → creating_all paths ++ later ≡ made ++ rest
    → HoldsFilePrefix (contents_at path before.files) (contents_at path (changed_by before made).files)
    (contents_at path (changed_by before (made ++ rest)).files)
file-prefix path paths later made rest before among adds parts =
    rw (contents-by path before made, contents-by path before (made ++ rest)) (go (contents_at path before.files))
  where
    go : (there : Option (Option Node))
        → HoldsFilePrefix there (option_map (node_by path made) there) (option_map (node_by path (made ++ rest)) there)
    go None = inl refl
    go (Some node) = prefix-of path later rest adds node paths node made parts (inl (refl, among))

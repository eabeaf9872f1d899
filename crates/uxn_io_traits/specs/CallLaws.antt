-- Laws of the calls of a tree: what each did, told as how a call ended that was to make its changes.
use Rattle.std.specs.Prelude.{◌≡◌, ℕ, ◌+◌, ◌<◌, ◌≤◌, ◌&&◌, Bool, true, false, List, [], ◌∷◌}
use Rattle.std.specs.Prelude.{◌++◌, length, take, drop}
use Rattle.std.specs.Prelude.{Option, Some, None, IfSome, IsSome, is_some, is_none, refl, if◌then◌else◌}
use Rattle.std.specs.Option.{option_map}
use Rattle.std.specs.FinMap as map
use Rattle.std.proofs.Common.{ap, sym, subst, ◌∙◌, arith}
use Rattle.std.proofs.lemmas.Bool.{true≢false, false≢true}
use Rattle.std.proofs.lemmas.List.{take-append-drop, length_push}
use Rattle.std.proofs.Math.Seq.{take-add}
use Rattle.uxn_io_traits.specs.Files.{Node, Nodes, File, bytes_of, file_bytes_at, file_at}
use Rattle.uxn_io_traits.specs.Changes.{can_create, with_created, new_files, with_appended, with_removed}
use Rattle.uxn_io_traits.specs.AppendingLaws.{contents_after-file, appending-both}
use Rattle.uxn_io_traits.specs.Faults.{Counted}
use Rattle.uxn_io_traits.specs.NodeLaws.{get_put, bytes_put}
use Rattle.uxn_io_traits.specs.Outside.{Change, Creates, ToFile, Removes, changed_files}
use Rattle.uxn_io_traits.specs.Room.{Room}
use Rattle.uxn_io_traits.specs.State.{TreeState}
use Rattle.uxn_io_traits.specs.Taking.{TreeTakes, TreeLeft, files_made, files_gone}
use Rattle.uxn_io_traits.specs.TakingLaws.{takes-later}
use Rattle.uxn_io_traits.specs.Ended.{contents_after, StandsAfter, TakesChanges, IsLeft, TreeEnded}
use Rattle.uxn_io_traits.specs.Ended.{TreeLooked, Refused, creating, removing, appending}
use Rattle.uxn_io_traits.specs.EndedLaws.{contents_after-none, tree-then}

-- of a tree of unknown contents and promises nothing only what it counts is known
pub unknown-ended : (changes : List Change) (failed : Bool) (before now : TreeState) → before.contents ≡ None → now.contents ≡ None
    → before.guaranteed.files ≡ 0 → Counted before.tally now.tally failed → TreeEnded changes failed before now
unknown-ended changes failed before now none none_now unsure counted = record {
  stands = stands failed;
  counted = counted;
  blamed = λ is. rw none (λ takes. omega (arith, takes.0, unsure));
  left = λ is. rw none (λ takes. absurd (omega (arith, takes.0, unsure)));
}
  where
    stands : (how : Bool) → StandsAfter changes how before.contents now.contents
    stands false = none_now ∙ sym (contents_after-none changes) ∙ ap (contents_after changes) (sym none)
    stands true = record { made = []; rest = changes; parts = refl; contents = none_now ∙ sym none }

-- nor does it guarantee any change, whatever it promises
pub unknown-as : (first : List Change) (change : Change) (changes : List Change) (failed : Bool) (before now : TreeState) → before.contents ≡ None
    → TreeEnded first failed before now → TreeEnded (change ∷ changes) failed before now
unknown-as first change changes failed before now none ended = record {
  stands = stands failed ended.stands;
  counted = ended.counted;
  blamed = rw none (λ is takes. no takes.1);
  left = rw none (λ is takes. absurd (no takes.1));
}
  where
    no : change ∷ changes ≡ [] → ⊥
    no is = cc

    still : (made : List Change) → now.contents ≡ contents_after made before.contents → now.contents ≡ None
    still made is = is ∙ ap (contents_after made) none ∙ contents_after-none made

    stands : (how : Bool) → StandsAfter first how before.contents now.contents → StandsAfter (change ∷ changes) how before.contents now.contents
    stands false is = still first is ∙ sym (contents_after-none (change ∷ changes)) ∙ ap (contents_after (change ∷ changes)) (sym none)
    stands true prefix = record { made = []; rest = change ∷ changes; parts = refl; contents = still prefix.made prefix.contents ∙ sym none }

pub unknown-looked : (failed : Bool) (before now : TreeState) → before.contents ≡ None → now.contents ≡ None → before.guaranteed.files ≡ 0
    → Refused None before now → Counted before.tally now.tally failed → TreeLooked failed before now
unknown-looked failed before now none none_now unsure refusals counted = record {
  contents = none_now ∙ sym none;
  counted = counted;
  refusals = refusals;
  blamed = λ is some. omega (arith, some, unsure);
  left = λ is some. absurd (omega (arith, some, unsure));
}

-- a call that failed and made nothing
pub nothing-made : (changes : List Change) (before now : TreeState) → now.contents ≡ before.contents → Counted before.tally now.tally true
    → (TakesChanges before.guaranteed before.contents changes → ⊥) → TreeEnded changes true before now
nothing-made changes before now contents counted unsure = record {
  stands = record { made = []; rest = changes; parts = refl; contents = contents };
  counted = counted;
  blamed = λ _. unsure;
  left = λ is. absurd (true≢false is);
}

-- a call that did not fail
pub all-made : (changes : List Change) (before now : TreeState) → now.contents ≡ contents_after changes before.contents
    → Counted before.tally now.tally false
    → (TakesChanges before.guaranteed before.contents changes → IsLeft before.guaranteed now.guaranteed before.contents changes)
    → TreeEnded changes false before now
all-made changes before now contents counted left = record {
  stands = contents;
  counted = counted;
  blamed = λ is. absurd (false≢true is);
  left = λ _. left;
}

-- who takes any changes promises something
pub takes-some : (room : Room) (nodes : Nodes) (changes : List Change) → TreeTakes room nodes changes → 0 < room.files
takes-some room nodes changes takes = let none = takes.files [] changes refl in omega (arith, none)

module _ (path : List ℕ) where
  -- a file made empty, where it can be
  pub contents_after-creating : (contents : Option Nodes)
      → contents_after (creating contents path) contents ≡ option_map (with_created path) contents
  contents_after-creating None = refl
  contents_after-creating (Some nodes) = by (can_create nodes path)
    where
      by : (can : Bool) → contents_after (if can then Creates path ∷ [] else []) (Some nodes)
          ≡ Some (if can then map.insert nodes path (File []) else nodes)
      by true = refl
      by false = refl

  new-none : (nodes : Nodes) → can_create nodes path ≡ false → new_files nodes path ≡ 0
  new-none nodes cannot = ap (λ (b : Bool). if b && is_none (map.get nodes path) then 1 else 0) cannot

  -- who is guaranteed to make it has a place for it
  pub created-takes : (nodes : Nodes) (room : Room) → TreeTakes room nodes (creating (Some nodes) path) → new_files nodes path < room.files
  created-takes nodes room = by (can_create nodes path) refl
    where
      by : (can : Bool) → can_create nodes path ≡ can → TreeTakes room nodes (if can then Creates path ∷ [] else [])
          → new_files nodes path < room.files
      by true can takes = let one = takes.files (Creates path ∷ []) [] refl in omega (arith, one)
      by false can takes =
          let some = takes-some room nodes [] takes in let none = new-none nodes can in omega (arith, some, none)

  -- a file taken away, where one is there
  pub contents_after-removing : (contents : Option Nodes)
      → contents_after (removing contents path) contents ≡ option_map (with_removed path) contents
  contents_after-removing None = refl
  contents_after-removing (Some nodes) = by (is_some (file_at nodes path))
    where
      by : (there : Bool) → contents_after (if there then Removes path ∷ [] else []) (Some nodes)
          ≡ Some (if there then map.remove nodes path else nodes)
      by true = refl
      by false = refl

  pub removed-left : (nodes : Nodes) (room now : Room) → room.files + (if is_some (file_at nodes path) then 1 else 0) ≤ now.files
      → room.bytes ≤ now.bytes → TreeLeft room now nodes (removing (Some nodes) path)
  removed-left nodes room now files bytes = by (is_some (file_at nodes path)) files
    where
      by : (there : Bool) → room.files + (if there then 1 else 0) ≤ now.files
          → TreeLeft room now nodes (if there then Removes path ∷ [] else [])
      by true files = record { files = omega (arith, files); bytes = bytes }
      by false files = record { files = omega (arith, files); bytes = bytes }

  -- bytes appended to a file
  appended-none : (nodes : Nodes) (piece : List ℕ)
      → (files_made nodes (appending path piece) ≡ 0) × (files_gone (appending path piece) ≡ 0)
  appended-none nodes [] = (refl, refl)
  appended-none nodes (byte ∷ piece) =
      let rest = appended-none (changed_files (ToFile path byte) nodes) piece in (omega (arith, rest.0), omega (arith, rest.1))

  -- where a piece is guaranteed to be taken the file has room for it
  pub appended-takes : (room : Room) (nodes : Nodes) (piece : List ℕ) → TreeTakes room nodes (appending path piece) → 0 < length piece
      → length (file_bytes_at nodes path) + length piece ≤ room.bytes
  appended-takes room nodes [] takes some = absurd (omega (arith, some))
  appended-takes room nodes (byte ∷ []) takes some = let one = takes.bytes [] [] path byte refl in omega (arith, one)
  appended-takes room nodes (byte ∷ next ∷ piece) takes some =
      let later = takes-later room room nodes (ToFile path byte ∷ []) (appending path (next ∷ piece)) takes
      (record { files = omega arith; bytes = omega arith }) in
      let rest = appended-takes room (changed_files (ToFile path byte) nodes) (next ∷ piece) later (omega arith) in
      let size : length (file_bytes_at (changed_files (ToFile path byte) nodes) path) ≡ length (file_bytes_at nodes path) + 1 =
      ap length (bytes_put nodes path (file_bytes_at nodes path ++ byte ∷ [])) ∙ length_push (file_bytes_at nodes path) byte in
      omega (arith, rest, size)

  pub appended-left : (room now : Room) (nodes : Nodes) (piece : List ℕ) → room.files ≤ now.files → room.bytes ≤ now.bytes
      → TreeLeft room now nodes (appending path piece)
  appended-left room now nodes piece files bytes =
      let none = appended-none nodes piece in record { files = omega (arith, files, none.0, none.1); bytes = bytes }

-- the same changes, written otherwise
pub ended-as : (first changes : List Change) (failed : Bool) (before now : TreeState) → first ≡ changes → TreeEnded first failed before now
    → TreeEnded changes failed before now
ended-as first changes failed before now same ended = subst (λ list. TreeEnded list failed before now) same ended

-- a piece was appended part by part
pub appended-then : (path piece : List ℕ) (at count : ℕ) (a b c : TreeState) → TreeEnded (appending path (take at piece)) false a b
    → TreeEnded (appending path (take count (drop at piece))) false b c → TreeEnded (appending path (take (at + count) piece)) false a c
appended-then path piece at count a b c p q =
    ended-as _ _ false a c
    (sym (appending-both path (take at piece) (take count (drop at piece))) ∙ ap (appending path) (sym (take-add at count piece)))
    (tree-then _ _ false a b c p q)

pub appended-stop : (path piece : List ℕ) (at : ℕ) (a b c : TreeState) → TreeEnded (appending path (take at piece)) false a b
    → TreeEnded (appending path (drop at piece)) true b c → TreeEnded (appending path piece) true a c
appended-stop path piece at a b c p q =
    ended-as _ _ true a c (sym (appending-both path (take at piece) (drop at piece)) ∙ ap (appending path) (take-append-drop at piece))
    (tree-then _ _ true a b c p q)

-- the file stays a file
kept_file : (nodes : Nodes) (path text : List ℕ) → IsSome (file_at nodes path) → IsSome (file_at (with_appended path text nodes) path)
kept_file nodes path [] is = is
kept_file nodes path (byte ∷ text) is =
    ap (λ (node : Option Node). is_some (bytes_of node)) (get_put nodes path (File (file_bytes_at nodes path ++ byte ∷ text)))

pub still_file : (path text : List ℕ) (a b : TreeState) → TreeEnded (appending path text) false a b
    → IfSome a.contents (λ nodes. IsSome (file_at nodes path)) → IfSome b.contents (λ nodes. IsSome (file_at nodes path))
still_file path text a b ended = by a.contents (ended.stands ∙ contents_after-file a.contents path text)
  where
    by : (contents : Option Nodes) → b.contents ≡ option_map (with_appended path text) contents
        → IfSome contents (λ nodes. IsSome (file_at nodes path))
        → IfSome b.contents (λ nodes. IsSome (file_at nodes path))
    by None is file = rw is tt
    by (Some nodes) is file = rw is (kept_file nodes path text file)

-- What a write and a delete change: what a write begins with, and what is added behind that.
use Rattle.std.proofs.Common.{arith, ◌≡◌, ℕ, ◌⊎◌, inl, inr, Bool, true, false, not, ◌&&◌, ◌||◌, List, [], ◌∷◌, ◌++◌, take, drop, refl, ap, sym, subst}
use Rattle.std.proofs.Common.{◌∙◌}
use Rattle.std.proofs.lemmas.Grind.{common_steps}
use Rattle.std.specs.Prelude.{Option, Some, None, IfSome, IsSome, IsTrue, Result, Ok, Err, IfOk, is_err, is_some, length, if◌then◌else◌}
use Rattle.std.specs.FinMap as map
use Rattle.std.proofs.lemmas.List.{append-nil}
use Rattle.uxn_io_traits.specs.declared.sinks.Failed.{Failed}
use Rattle.uxn_io_traits.specs.Files.{Node, Nodes, File, kind_at, file_at, bytes_of}
use Rattle.uxn_io_traits.specs.CallLaws.{unknown-as, ended-as, contents_after-creating}
use Rattle.uxn_io_traits.specs.Changes.{can_create}
use Rattle.uxn_io_traits.specs.NodeLaws.{get_put}
use Rattle.uxn_io_traits.specs.Outside.{Change, Creates}
use Rattle.uxn_io_traits.specs.State.{TreeState}
use Rattle.uxn_io_traits.specs.Ended.{TreeEnded, TreeLooked, creating, appending}
use Rattle.uxn_io_traits.specs.EndedLaws.{looked-ended, looked-tree, tree-then, tree-first}
use Rattle.uxn_memory.specs.Bytes.{bank0}
use Rattle.file_ports.specs.declared.mode.Mode.{Mode}
use Rattle.file_ports.specs.declared.mode.Mode.TheVariants.{Idle, Writing}
use Rattle.file_ports.specs.Device.{FileState, is_writing}
use Rattle.file_ports.specs.Actions.{Write, observed_file, is_file, begun, adds, count_from}
use Rattle.file_ports.specs.AnswersAction.{changes_by, then_changes, changes_written, AnswersAction, FileActed}

-- how a write begins, by what decides it
abbrev chosen : Bool → Bool → Bool → List ℕ → Option (List Change)
chosen on writes can path = if on then Some [] else if not writes && can then Some (Creates path ∷ []) else None

chosen-quiet : (on writes can : Bool) (path : List ℕ) → (on ≡ true) ⊎ (writes ≡ true) → [] ≡ then_changes (chosen on writes can path) []
chosen-quiet = grind (arith, common_steps)

chosen-new : (on writes can : Bool) (path : List ℕ) → on ≡ false → writes ≡ false
    → (if can then Creates path ∷ [] else []) ≡ then_changes (chosen on writes can path) []
chosen-new = grind (arith, common_steps)

module _ (path : List ℕ) (writing keep : Bool) where
  -- nothing is done to begin
  pub begin-quiet : (a b : TreeState) (goes : Bool) → IfSome a.contents (λ nodes. goes ≡ ((writing || keep) && is_file (kind_at nodes path)))
      → (goes ≡ true) ⊎ (writing ≡ true) → TreeLooked false a b → TreeEnded (changes_written writing keep a.contents path []) false a b
  begin-quiet a b goes answer either looked = by a.contents refl answer
    where
      by : (contents : Option Nodes) → a.contents ≡ contents → IfSome contents (λ nodes. goes ≡ ((writing || keep) && is_file (kind_at nodes path)))
          → TreeEnded (changes_written writing keep contents path []) false a b
      by None contents answer = unknown-as [] (Creates path) [] false a b contents (looked-ended false a b looked)
      by (Some nodes) contents answer =
          let on = (writing || keep) && is_file (kind_at nodes path) in
          let decides : (on ≡ true) ⊎ (writing ≡ true) = elim either [ inl is ↦ inl (sym answer ∙ is) | inr is ↦ inr is ] in
          subst (λ changes. TreeEnded changes false a b) (chosen-quiet on writing (can_create nodes path) path decides) (looked-ended false a b looked)

  -- or a file is made
  pub begin-new : (a b c : TreeState) (goes failed : Bool) → IfSome a.contents (λ nodes. goes ≡ ((writing || keep) && is_file (kind_at nodes path)))
      → goes ≡ false → writing ≡ false → TreeLooked false a b → TreeEnded (creating b.contents path) failed b c
      → TreeEnded (changes_written writing keep a.contents path []) failed a c
  begin-new a b c goes failed answer off idle looked made = grind (arith, common_steps, chosen-new, looked-tree)

  -- what was to come behind a beginning that failed
  pub added-first : (a b : TreeState) (more : List Change) → TreeEnded (changes_written writing keep a.contents path []) true a b
      → TreeEnded (changes_written writing keep a.contents path more) true a b
  added-first a b more failed = by a.contents failed
    where
      behind : (first : Option (List Change)) → TreeEnded (then_changes first []) true a b → TreeEnded (then_changes first more) true a b
      behind None p = p
      behind (Some first) p =
          subst (λ changes. TreeEnded (changes ++ more) true a b) (append-nil first) (tree-first (first ++ []) more a b p)

      by : (contents : Option Nodes) → TreeEnded (changes_written writing keep contents path []) true a b
          → TreeEnded (changes_written writing keep contents path more) true a b
      by None p = p
      by (Some nodes) p = behind (begun writing keep (observed_file nodes path)) p

  -- what was to come where nothing could begin
  pub added-none : (a b : TreeState) (more : List Change) (goes : Bool)
      → IfSome a.contents (λ nodes. goes ≡ is_some (begun writing keep (observed_file nodes path))) → goes ≡ false
      → TreeEnded (changes_written writing keep a.contents path []) false a b → TreeEnded (changes_written writing keep a.contents path more) false a b
  added-none a b more goes begins off ended = by a.contents begins ended
    where
      behind : (first : Option (List Change)) → goes ≡ is_some first → TreeEnded (then_changes first []) false a b
          → TreeEnded (then_changes first more) false a b
      behind None begins p = p
      behind (Some first) begins p = let no : false ≡ true = sym off ∙ begins in cc

      by : (contents : Option Nodes) → IfSome contents (λ nodes. goes ≡ is_some (begun writing keep (observed_file nodes path)))
          → TreeEnded (changes_written writing keep contents path []) false a b
          → TreeEnded (changes_written writing keep contents path more) false a b
      by None begins p = p
      by (Some nodes) begins p = behind (begun writing keep (observed_file nodes path)) begins p

  -- bytes behind a beginning
  pub added-all : (a b c : TreeState) (piece : List ℕ) (goes failed : Bool)
      → IfSome a.contents (λ nodes. goes ≡ is_some (begun writing keep (observed_file nodes path))) → goes ≡ true
      → TreeEnded (changes_written writing keep a.contents path []) false a b → TreeEnded (appending path piece) failed b c
      → TreeEnded (changes_written writing keep a.contents path (appending path piece)) failed a c
  added-all a b c piece goes failed begins on ended added = by a.contents refl begins ended
    where
      behind : (first : Option (List Change)) → goes ≡ is_some first → TreeEnded (then_changes first []) false a b
          → TreeEnded (then_changes first (appending path piece)) failed a c
      behind None begins p = let no : true ≡ false = sym on ∙ begins in cc
      behind (Some first) begins p =
          subst (λ changes. TreeEnded (changes ++ appending path piece) failed a c) (append-nil first)
          (tree-then (first ++ []) (appending path piece) failed a b c p added)

      by : (contents : Option Nodes) → a.contents ≡ contents
          → IfSome contents (λ nodes. goes ≡ is_some (begun writing keep (observed_file nodes path)))
          → TreeEnded (changes_written writing keep contents path []) false a b
          → TreeEnded (changes_written writing keep contents path (appending path piece)) failed a c
      by None contents begins p =
          unknown-as _ (Creates path) [] failed a c contents (tree-then (Creates path ∷ []) (appending path piece) failed a b c p added)
      by (Some nodes) contents begins p = behind (begun writing keep (observed_file nodes path)) begins p

made_file : (can : Bool) (path : List ℕ) (nodes : Nodes) → can ≡ true → IsSome (file_at (if can then map.insert nodes path (File []) else nodes) path)
made_file true path nodes h = ap (λ (node : Option Node). is_some (bytes_of node)) (get_put nodes path (File []))
made_file false path nodes h = cc

-- where a file was made one is there
pub file_made : (before now : TreeState) (path : List ℕ) (r : Result Bool Failed)
    → IfOk r (λ made. IfSome before.contents (λ nodes. made ≡ can_create nodes path))
    → TreeEnded (creating before.contents path) (is_err r) before now
    → IfOk r (λ goes. IsTrue goes → IfSome now.contents (λ nodes. IsSome (file_at nodes path)))
file_made before now path (Err fault) answers ended = tt
file_made before now path (Ok made) answers ended = grind (arith, common_steps, contents_after-creating, made_file)

-- a device at a path writes this piece of memory
pub record WritesAt (at length : ℕ) (memory : List ℕ) (was : FileState) (path : List ℕ) (writing : Bool) (piece : List ℕ) : Type 0 where
  pub is : was.path ≡ Some path
  pub writes : writing ≡ is_writing was.mode
  pub takes : piece ≡ take (count_from at length) (drop at (bank0 memory))

pub writes_at : (at length count : ℕ) (memory : List ℕ) (was : FileState) (here : Option (List ℕ)) (mode : Mode) (path : List ℕ)
    (writing : Bool) (piece : List ℕ)
    → record { path = here; mode = mode } ≡ was → here ≡ Some path → writing ≡ is_writing mode → count ≡ count_from at length
    → piece ≡ take count (drop at (bank0 memory)) → WritesAt at length memory was path writing piece
writes_at at length count memory was here mode path writing piece seen is writes counted takes =
    subst (λ (d : FileState). WritesAt at length memory d path writing piece) seen
    (record { is = is; writes = writes; takes = takes ∙ ap (λ (n : ℕ). take n (drop at (bank0 memory))) counted })

-- so these are its changes
changes_added : (path memory piece : List ℕ) (first : Option (List Change)) → then_changes first (appending path piece) ≡ (adds path memory piece first).changes
changes_added path memory piece None = refl
changes_added path memory piece (Some first) = refl

pub write-changes : (at length : ℕ) (keep writing failed : Bool) (path piece memory : List ℕ) (was : FileState) (a b : TreeState)
    → WritesAt at length memory was path writing piece
    → TreeEnded (changes_written writing keep a.contents path (appending path piece)) failed a b
    → TreeEnded (changes_by (Write at length keep) a.contents was memory) failed a b
write-changes at length keep writing failed path piece memory was a b w ended = ended-as _ _ failed a b (by a.contents) ended
  where
    by : (contents : Option Nodes) → changes_written writing keep contents path (appending path piece)
        ≡ changes_by (Write at length keep) contents was memory
    by None = rw w.is refl
    by (Some nodes) =
        rw (w.is, w.writes, w.takes) (changes_added path memory _ (begun (is_writing was.mode) keep (observed_file nodes path)))

-- its answer and the device then, where it began and where it could not
adds_done : (path memory piece : List ℕ) (first : Option (List Change)) (began : Bool) → began ≡ is_some first
    → AnswersAction (adds path memory piece first) (Ok (if began then length piece else 0))
    (record { path = Some path; mode = if began then Writing else Idle }) memory
adds_done path memory piece None began is = rw is (record { success = refl; device = refl; memory = refl })
adds_done path memory piece (Some first) began is = rw is (record { success = refl; device = refl; memory = refl })

pub write-acted : (at wanted : ℕ) (keep writing goes began : Bool) (path piece memory : List ℕ) (was : FileState) (here : Option (List ℕ))
    (contents : Option Nodes)
    → WritesAt at wanted memory was path writing piece → here ≡ Some path → goes ≡ began
    → IfSome contents (λ nodes. goes ≡ is_some (begun writing keep (observed_file nodes path)))
    → FileActed (Write at wanted keep) was memory contents (Ok (if began then length piece else 0))
    (record { path = here; mode = if began then Writing else Idle }) memory
write-acted at wanted keep writing goes began path piece memory was here None w is on begins = record {
  path = is ∙ sym w.is;
  answers = rw w.is tt;
}
write-acted at wanted keep writing goes began path piece memory was here (Some nodes) w is on begins = record {
  path = is ∙ sym w.is;
  answers =
      rw (w.is, is, w.takes) (adds_done path memory _ (begun (is_writing was.mode) keep (observed_file nodes path)) began
      (sym on ∙ begins ∙ ap (λ (b : Bool). is_some (begun b keep (observed_file nodes path))) w.writes));
}

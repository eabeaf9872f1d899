-- What calls of a tree did, one after the other.
use Rattle.uxn_cli.proofs.Common.{Bool, IfSome, IsSome, List, None, Option, Some, [], ap, arith, false, refl, subst, sym, true, ℕ, ◌++◌, ◌∙◌}
use Rattle.uxn_cli.proofs.Common.{◌∷◌, ◌≡◌, common_steps, All-head, All-tail, can_create, TreeEnded, TreeLooked, appending, contents_after}
use Rattle.uxn_cli.proofs.Common.{looked-ended, looked-nothing, contents_after-map, contents_after-none, tree-first, tree-then, Nodes, file_at}
use Rattle.uxn_cli.proofs.Common.{Change, Creates, TreeState, paths_of, observed_text, observed_texts, AreFiles, CanMake, Text, Did}
use Rattle.uxn_cli.proofs.Common.{creating_all, filling_all, writing, Output}
use Rattle.uxn_io_traits.specs.AppendingLaws.{contents_after-file}
use Rattle.uxn_io_traits.specs.CallLaws.{ended-as, contents_after-creating, unknown-as}
use Rattle.uxn_io_traits.specs.Ended.{Refused, creating as creating_at, refused_also}
use Rattle.uxn_cli.proofs.OutputLemmas.{observed_paths, keep_files}

-- a tree of unknown contents tells nothing; one of unknown contents in the end told nothing before
pub still-unknown : (changes : List Change) (a b : TreeState) → TreeEnded changes false a b → a.contents ≡ None → b.contents ≡ None
still-unknown changes a b did none = did.stands ∙ ap (contents_after changes) none ∙ contents_after-none changes

pub unknown-before : (changes : List Change) (a b : TreeState) → TreeEnded changes false a b → b.contents ≡ None → a.contents ≡ None
unknown-before changes a b did none = (let is = did.stands ∙ contents_after-map a.contents changes in grind (arith, common_steps, is))

-- refusals that are counted, after calls that were not refused
pub refused-then : (file : Option (List ℕ)) (a b c : TreeState) → Refused None a b → b.tally.exact ≡ a.tally.exact → Refused file b c
    → Refused file a c
refused-then file a b c p promise q = λ exact. q (promise ∙ exact) ∙ ap (refused_also file) (p exact)

-- ---- calls one after the other

pub did-nothing : (now : TreeState) → Did [] false None now now
did-nothing now = record { done = looked-ended false now now (looked-nothing now); refusals = λ exact. refl }

pub did-then : (first more : List Change) (failed : Bool) (refused : Option (List ℕ)) (a b c : TreeState) → Did first false None a b → Did more failed refused b c
    → Did (first ++ more) failed refused a c
did-then first more failed refused a b c p q = record {
  done = tree-then first more failed a b c p.done q.done;
  refusals = refused-then refused a b c p.refusals p.done.counted.promise q.refusals;
}

pub did-first : (first more : List Change) (refused : Option (List ℕ)) (a b : TreeState) → Did first true refused a b → Did (first ++ more) true refused a b
did-first first more refused a b p = record { done = tree-first first more a b p.done; refusals = p.refusals }

pub did-looked : (changes : List Change) (failed : Bool) (refused : Option (List ℕ)) (a b c : TreeState) → TreeLooked false a b → Did changes failed refused b c
    → Did changes failed refused a c
did-looked changes failed refused a b c p q = did-then [] changes failed refused a b c (record { done = looked-ended false a b p; refusals = p.refusals }) q

-- ---- files, one after the other

abbrev pub creates : List Output → List Change
creates outputs = creating_all (paths_of outputs)

abbrev pub fills : List Output → List Change
fills outputs = filling_all (observed_texts outputs)

pub as-writing : (outputs : List Output) (failed : Bool) (refused : Option (List ℕ)) (a b : TreeState) → Did (creates outputs ++ fills outputs) failed refused a b
    → Did (writing (observed_texts outputs)) failed refused a b
unfolding writing
as-writing outputs failed refused a b did = subst (λ ps. Did (creating_all ps ++ fills outputs) failed refused a b) (sym (observed_paths outputs)) did

-- the next file is made
module _ (output : Output) (outputs : List Output) (here now : TreeState) (can : IfSome here.contents (CanMake (observed_texts (output ∷ outputs)))) where
  one-made : (failed : Bool) → TreeEnded (creating_at here.contents output.path) failed here now → TreeEnded (creating_all (output.path ∷ [])) failed here now
  unfolding CanMake
  one-made failed ended = ended-as _ _ failed here now (grind (arith, common_steps)) ended

  pub make-failed : TreeEnded (creating_at here.contents output.path) true here now → Refused None here now
      → Did (creates (output ∷ outputs)) true None here now
  make-failed ended refused = did-first (creating_all (output.path ∷ [])) (creates outputs) None here now (record { done = one-made true ended; refusals = refused })

  pub make-then : TreeEnded (creating_at here.contents output.path) false here now → Refused None here now
      → (failed : Bool) (refused : Option (List ℕ)) (last : TreeState) → Did (creates outputs) failed refused now last
      → Did (creates (output ∷ outputs)) failed refused here last
  make-then ended none failed refused last did =
      did-then (creating_all (output.path ∷ [])) (creates outputs) failed refused here now last (record { done = one-made false ended; refusals = none }) did

  pub can-then : TreeEnded (creating_at here.contents output.path) false here now → IfSome now.contents (CanMake (observed_texts outputs))
  unfolding CanMake
  can-then ended = (let is = ended.stands ∙ contents_after-creating output.path here.contents in grind (arith, common_steps, is))

  -- only a tree of unknown contents does not make it
  pub is-unknown : IfSome here.contents (λ nodes. false ≡ can_create nodes output.path) → here.contents ≡ None
  unfolding CanMake
  is-unknown answer = grind (arith, common_steps)

  pub make-refused : TreeEnded (creating_at here.contents output.path) false here now → Refused (Some output.path) here now → here.contents ≡ None
      → Did (creates (output ∷ outputs)) false (Some output.path) here now
  make-refused ended refused none = record { done = unknown-as _ (Creates output.path) (creates outputs) false here now none ended; refusals = refused }

-- the next file is filled
module _ (output : Output) (outputs : List Output) (here now : TreeState) (files : IfSome here.contents (AreFiles (observed_texts (output ∷ outputs)))) where
  pub file-there : IfSome here.contents (λ nodes. IsSome (file_at nodes output.path))
  file-there = grind (arith, common_steps, All-head)

  others-there : IfSome here.contents (AreFiles (observed_texts outputs))
  others-there = go here.contents files
    where
      go : (t : Option Nodes) → IfSome t (AreFiles (observed_texts (output ∷ outputs))) → IfSome t (AreFiles (observed_texts outputs))
      go None files = tt
      go (Some nodes) files = All-tail (λ (t : Text). IsSome (file_at nodes t.path)) (observed_text output) (observed_texts outputs) files

  pub files-then : TreeEnded (appending output.path output.bytes.items) false here now → IfSome now.contents (AreFiles (observed_texts outputs))
  files-then ended =
      keep_files (observed_texts outputs) output.path output.bytes.items here.contents now.contents (ended.stands ∙ contents_after-file here.contents output.path output.bytes.items) others-there

-- Outputs that are looked at, made and written.
use Rattle.uxn_cli.proofs.Common.{Err, Ok, IfSome, IsSome, List, None, Option, Some, [], arith, bytes_eq, false, find, inl, inr, option_map}
use Rattle.uxn_cli.proofs.Common.{option_to_list, refl, subst, sym, true, true≢false, ℕ, ◌∙◌, ◌∷◌, ◌≡◌, common_steps, All-cons, All-head, All-nil, All-tail, bytes_eq-Decides}
use Rattle.uxn_cli.proofs.Common.{list_any, with_created, TreeEnded, TreeLooked, contents_after, Nodes, file_at, Change, TreeState, clashes}
use Rattle.uxn_cli.proofs.Common.{inputs_of, outputs_of, root_of, AreApart, AreFree, DoesPart, EndsMaking, HalfDone, IsUnmade, Made, MakesOutputs, Refuses, WritesOutputs}
use Rattle.uxn_cli.proofs.Common.{paths_of, observed_text, observed_texts, AreFiles, CanMake, Text, text_paths, with_empty, Did, creating_all, writing}
use Rattle.uxn_cli.proofs.Common.{Output, Gives, Inquires, free_outputs, Refusal, rules, Result, Bool, Halt}
use Rattle.uxn_io_traits.specs.declared.halt.Halt.{Halt as InquiryHalt}
use Rattle.uxn_io_traits.specs.declared.halt.Halt.TheVariants as denied
use Rattle.uxn_cli.specs.declared.task_files.refusal.Halt.TheVariants.{Refused, Stopped}
use Rattle.uxn_opcodes.specs.declared.Stop.TheVariants.{TreeFault, SinkFault, NoMemory}
use Rattle.uxn_io_traits.specs.GivesLaws.{inquires-gives}
use Rattle.uxn_io_traits.specs.AskingLaws.{inquires-looked}
use Rattle.uxn_io_traits.specs.FaultLaws.{counted-then}
use Rattle.uxn_cli.specs.Blame.{halt_of_inquiry}
use Rattle.uxn_cli.proofs.ApartLemmas.{makes_all, made_files}
use Rattle.uxn_cli.proofs.DidLemmas.{creates, fills, did-first, did-then, did-looked, as-writing, still-unknown, refused-then}
use Rattle.uxn_cli.proofs.FreeLemmas.{free-can, free-unmade}
use Rattle.uxn_cli.proofs.OutputLemmas.{observed_paths}
use Rattle.uxn_cli.proofs.PlaceLemmas.{no_clash-fewer}
use Rattle.uxn_cli.specs.declared.task_files.refusal.Refusal.TheVariants.{NoOutput}

file_among : (path : List ℕ) (texts : List Text) (nodes : Nodes) → list_any (bytes_eq path) (text_paths texts) ≡ true → AreFiles texts nodes
    → IsSome (file_at nodes path)
file_among path [] nodes e files = absurd cc
file_among path (text ∷ texts) nodes e files =
    let rest = file_among path texts nodes in
    let here = All-head (λ (t : Text). IsSome (file_at nodes t.path)) text texts files in
    let there = All-tail (λ (t : Text). IsSome (file_at nodes t.path)) text texts files in
    grind (arith, common_steps, rest, here, there, bytes_eq-Decides)

files_among : (outputs : List Output) (nodes : Nodes) → ((path : List ℕ) → list_any (bytes_eq path) (paths_of outputs) ≡ true → IsSome (file_at nodes path))
    → AreFiles (observed_texts outputs) nodes
files_among [] nodes there = All-nil _
files_among (output ∷ outputs) nodes there =
    All-cons (λ (t : Text). IsSome (file_at nodes t.path)) (observed_text output) (observed_texts outputs) (there output.path (grind (arith, common_steps, bytes_eq-Decides)))
    (files_among outputs nodes (λ path among. there path (grind (arith, common_steps))))

pub made-there : (outputs : List Output) (t : Option Nodes)
    → ((path : List ℕ) → list_any (bytes_eq path) (paths_of outputs) ≡ true → IfSome t (λ nodes. IsSome (file_at nodes path)))
    → IfSome t (AreFiles (observed_texts outputs))
made-there outputs None there = tt
made-there outputs (Some nodes) there = files_among outputs nodes there

-- the known contents of a tree once files were made
pub made-contents : (texts : List Text) (contents : Option Nodes) → IfSome contents (CanMake texts)
    → contents_after (creating_all (text_paths texts)) contents ≡ option_map (with_empty texts) contents
unfolding CanMake
made-contents [] contents can = grind arith
made-contents (text ∷ texts) contents can = (let rest = made-contents texts (option_map (with_created text.path) contents) in grind (arith, common_steps, rest))

-- the files that were made are there
pub files-made : (outputs : List Output) (before now : TreeState) → IfSome before.contents (CanMake (observed_texts outputs))
    → TreeEnded (creating_all (paths_of outputs)) false before now
    → IfSome now.contents (AreFiles (observed_texts outputs))
files-made = search (rules, made_files, observed_paths, made-contents)

-- outputs that are not to be made, or a tree that failed
pub looks-ended : (included paths : List (List ℕ)) (changes : List Change) (before now : TreeState) (halt : InquiryHalt Refusal)
    → Inquires (λ (free : Unit {0}). free) (free_outputs included paths) before now (Err halt) → EndsMaking included paths changes before now (halt_of_inquiry halt)
looks-ended included paths changes before now (denied.Refused refusal) asks =
    let looked = inquires-looked _ _ before now _ asks in
    record { blocked = inquires-gives _ _ before now _ asks; contents = looked.contents; counted = looked.counted; refusals = inl looked.refusals }
looks-ended included paths changes before now denied.TreeFault asks = inl (inquires-looked _ _ before now _ asks)
looks-ended included paths changes before now denied.NoMemory asks = inquires-looked _ _ before now _ asks

module _ (outputs : List Output) (apart : AreApart (paths_of outputs)) (included : List (List ℕ)) (start here : TreeState)
    (asks : Inquires (λ (free : Unit {0}). free) (free_outputs included (paths_of outputs)) start here (Ok tt)) where
  looked : TreeLooked false start here
  looked = inquires-looked _ _ start here _ asks

  free : AreFree start.contents included (paths_of outputs)
  free = inquires-gives _ _ start here _ asks

  -- each can be made
  pub can_make : IfSome here.contents (CanMake (observed_texts outputs))
  can_make = subst (λ t. IfSome t (CanMake (observed_texts outputs))) (sym looked.contents) (go start.contents free)
    where
      inputs : List (List ℕ)
      inputs = inputs_of apart.task

      no_clash : find (clashes inputs (text_paths (observed_texts outputs))) (text_paths (observed_texts outputs)) ≡ None
      no_clash =
          rw (observed_paths outputs, apart.outputs) (no_clash-fewer inputs (option_to_list (root_of apart.task)) (outputs_of apart.task) (outputs_of apart.task) apart.apart)

      go : (t : Option Nodes) → AreFree t included (paths_of outputs) → IfSome t (CanMake (observed_texts outputs))
      go None free = tt
      go (Some nodes) free = makes_all inputs (observed_texts outputs) nodes no_clash (rw (observed_paths outputs) (free-can nodes included (paths_of outputs) free))

  module _ (now : TreeState) where
    -- one that a tree of unknown contents did not make
    pub one-unmade : (changes : List Change) (path : List ℕ) → IsUnmade here.contents (paths_of outputs) path → Did changes false (Some path) here now
        → Refuses included (paths_of outputs) (NoOutput path) start now
    one-unmade changes path unmade did =
        let unknown : start.contents ≡ None = sym looked.contents ∙ unmade.unknown in
        record {
          blocked = subst (λ t. Gives t (free_outputs included (paths_of outputs)) (Err (NoOutput path))) (sym unknown)
              (free-unmade included (paths_of outputs) path unmade.among (subst (λ t. AreFree t included (paths_of outputs)) unknown free));
          contents = still-unknown changes here now did.done unmade.unknown ∙ sym unknown;
          counted = counted-then start.tally here.tally now.tally false looked.counted did.done.counted;
          refusals = inr (record {
            path = path;
            names = refl;
            unknown = unknown;
            refused = refused-then (Some path) start here now looked.refusals looked.counted.promise did.refusals;
          });
        }

    -- the tree failed, and some was done
    pub half-done : (changes : List Change) → Did changes true None here now → HalfDone included (paths_of outputs) changes start now
    half-done changes did = (let all = did-looked changes true None start here now looked did in record { free = free; did = all.done; refusals = all.refusals })

    -- all were made
    pub all-made : Did (creating_all (paths_of outputs)) false None here now → Made included (paths_of outputs) start now
    all-made did =
        let all = did-looked _ false None start here now looked did in
        record {
          free = free;
          did = all.done;
          refusals = all.refusals;
          files = λ path among. in_files path (rw (observed_paths outputs) among) (files-made outputs here now can_make did.done);
        }
      where
        in_files : (path : List ℕ) → list_any (bytes_eq path) (text_paths (observed_texts outputs)) ≡ true → IfSome now.contents (AreFiles (observed_texts outputs))
            → IfSome now.contents (λ nodes. IsSome (file_at nodes path))
        in_files path among files = grind (arith, common_steps, file_among)

    -- so they were made, or one is refused, or the tree failed
    pub makes-outputs : (result : Result (Unit {0}) Halt) → DoesPart (paths_of outputs) (creating_all (paths_of outputs)) here now result
        → MakesOutputs included (paths_of outputs) start now result
    makes-outputs (Ok _) did = all-made did
    makes-outputs (Err (Refused refusal)) left = rw left.names (one-unmade _ left.path left.unmade left.did)
    makes-outputs (Err (Stopped TreeFault)) did = inr (half-done _ did)
    makes-outputs (Err (Stopped SinkFault)) never = absurd never
    makes-outputs (Err (Stopped NoMemory)) never = absurd never

-- ---- files that are made, and then get their bytes

module _ (outputs : List Output) (included : List (List ℕ)) (start here : TreeState) where
  -- they were not all made
  pub makes-first : (halt : Halt) → EndsMaking included (paths_of outputs) (creating_all (paths_of outputs)) start here halt
      → EndsMaking included (paths_of outputs) (writing (observed_texts outputs)) start here halt
  makes-first (Refused refusal) refused = refused
  makes-first (Stopped TreeFault) (inl looked) = inl looked
  makes-first (Stopped TreeFault) (inr half) =
      let first = did-first (creates outputs) (fills outputs) None start here (record { done = half.did; refusals = half.refusals }) in
      let did = as-writing outputs true None start here first in
      inr (record { free = half.free; did = did.done; refusals = did.refusals })
  makes-first (Stopped NoMemory) looked = looked
  makes-first (Stopped SinkFault) never = never

  -- they were, and got their bytes, or the tree failed
  module _ (now : TreeState) (made : Made included (paths_of outputs) start here) where
    did-both : (failed : Bool) → Did (fills outputs) failed None here now → Did (writing (observed_texts outputs)) failed None start now
    did-both failed did =
        as-writing outputs failed None start now
        (did-then (creates outputs) (fills outputs) failed None start here now (record { done = made.did; refusals = made.refusals }) did)

    pub writes-then : (result : Result (Unit {0}) Halt) → DoesPart [] (fills outputs) here now result
        → WritesOutputs included (paths_of outputs) (observed_texts outputs) start now result
    writes-then (Ok _) did = (let both = did-both false did in record { free = made.free; did = both.done; refusals = both.refusals })
    writes-then (Err (Refused refusal)) left = absurd (true≢false (sym left.unmade.among))
    writes-then (Err (Stopped TreeFault)) did =
        let both = did-both true did in inr (record { free = made.free; did = both.done; refusals = both.refusals })
    writes-then (Err (Stopped SinkFault)) never = absurd never
    writes-then (Err (Stopped NoMemory)) never = absurd never

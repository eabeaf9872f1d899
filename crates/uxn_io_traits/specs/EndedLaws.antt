-- Laws of how calls ended: one after the other, and those of a tree or a sink beside the other two.
use Rattle.std.specs.Prelude.{◌≡◌, ◌≢◌, ℕ, ◌+◌, ◌<◌, ◌≤◌, Bool, true, false, List, [], ◌∷◌, ◌++◌}
use Rattle.std.specs.Prelude.{length, take, Option, Some, None, Result, Ok, Err, refl, IfSome}
use Rattle.std.specs.Option.{option_map}
use Rattle.std.proofs.Common.{inl, inr, ap, sym, subst, ◌∙◌, append_assoc, arith}
use Rattle.std.proofs.lemmas.List.{length-append}
use Rattle.std.proofs.Math.Seq.{take-append-add}
use Rattle.std.proofs.lemmas.Bool.{true≢false, false≢true}
use Rattle.uxn_io_traits.specs.EachLaws.{each-parts}
use Rattle.uxn_io_traits.specs.Files.{Nodes}
use Rattle.uxn_io_traits.specs.declared.sinks.Failed.{Failed}
use Rattle.uxn_io_traits.specs.FaultLaws.{counted-same, counted-then, ledger-same, ledger-then}
use Rattle.uxn_io_traits.specs.Outside.{Change, ToOut, ToErr, Creates, ToFile, Removes, World, changed, changed_files, changed_by, files_by}
use Rattle.uxn_io_traits.specs.ChangeLaws.{changed_by-append, changed_by-out, changed_by-err, cut-first, cut-later, cut-text}
use Rattle.uxn_io_traits.specs.ChangeLaws.{files-contents, extended-nothing, extended-extended, HaveSameOutputs}
use Rattle.uxn_io_traits.specs.Faults.{Blame, Nobody, ASink}
use Rattle.uxn_io_traits.specs.Room.{Room}
use Rattle.uxn_io_traits.specs.State.{TreeState, SinkState, Outside, outside}
use Rattle.uxn_io_traits.specs.Taking.{TreeTakes, TreeLeft, Remains, WasNotGuaranteed, bytes_out, bytes_err, files_made, files_gone}
use Rattle.uxn_io_traits.specs.TakingLaws.{takes-first, takes-later, left-both, remains-all, remains-both, not-guaranteed-first, not-guaranteed-later}
use Rattle.uxn_io_traits.specs.Known.{extended}
use Rattle.uxn_io_traits.specs.Ended.{contents_after, StandsAfter, TakesChanges, IsLeft, TreeEnded, TreeLooked, Refused}
use Rattle.uxn_io_traits.specs.Ended.{RefusedAtMost, RefusesNone, refused_also, refused_file, HoldsAfter, SinkEnded}
use Rattle.uxn_io_traits.specs.Ended.{Done, CutShort, Ended, IsOfTree, AreOfTree, blame_of_tree, blame_of_sink, to_out, to_err}

-- what is known after changes, and then more
pub contents_after-append : (contents : Option Nodes) (first more : List Change)
    → contents_after (first ++ more) contents ≡ contents_after more (contents_after first contents)
contents_after-append contents [] more = refl
contents_after-append contents (change ∷ first) more = contents_after-append (option_map (changed_files change) contents) first more

pub contents_after-some : (nodes : Nodes) (changes : List Change) → contents_after changes (Some nodes) ≡ Some (files_by nodes changes)
contents_after-some nodes [] = refl
contents_after-some nodes (change ∷ changes) = contents_after-some (changed_files change nodes) changes

pub contents_after-none : (changes : List Change) → contents_after changes None ≡ None
contents_after-none [] = refl
contents_after-none (change ∷ changes) = contents_after-none changes

pub contents_after-map : (contents : Option Nodes) (changes : List Change)
    → contents_after changes contents ≡ option_map (λ nodes. files_by nodes changes) contents
contents_after-map None changes = contents_after-none changes
contents_after-map (Some nodes) changes = contents_after-some nodes changes

-- what is guaranteed to be made of changes is made of their first part, and then, with what is left, the rest
pub takes-prefix : (room : Room) (contents : Option Nodes) (first more : List Change)
    → TakesChanges room contents (first ++ more) → TakesChanges room contents first
takes-prefix room None [] more takes = (takes.0, refl)
takes-prefix room None (change ∷ first) more takes = let no : change ∷ (first ++ more) ≡ [] = takes.1 in cc
takes-prefix room (Some nodes) first more takes = takes-first room nodes first more takes

takes-rest : (room now : Room) (contents : Option Nodes) (first more : List Change)
    → TakesChanges room contents (first ++ more) → IsLeft room now contents first
    → TakesChanges now (contents_after first contents) more
takes-rest room now None [] more takes left = (omega (arith, takes.0, left.0), takes.1)
takes-rest room now None (change ∷ first) more takes left = let no : change ∷ (first ++ more) ≡ [] = takes.1 in cc
takes-rest room now (Some nodes) first more takes left =
    subst (λ contents. TakesChanges now contents more) (sym (contents_after-some nodes first)) (takes-later room now nodes first more takes left)

left-then : (a b c : Room) (contents : Option Nodes) (first more : List Change) → IsLeft a b contents first
    → IsLeft b c (contents_after first contents) more
    → IsLeft a c contents (first ++ more)
left-then a b c None first more p q =
    let rest = subst (λ contents. IsLeft b c contents more) (contents_after-none first) q in (omega (arith, p.0, rest.0), omega (arith, p.1, rest.1))
left-then a b c (Some nodes) first more p q =
    left-both a b c nodes first more p (subst (λ contents. IsLeft b c contents more) (contents_after-some nodes first) q)

-- nothing was asked of it
pub looked-nothing : (now : TreeState) → TreeLooked false now now
looked-nothing now = record {
  contents = refl;
  counted = counted-same now.tally;
  refusals = λ _. refl;
  blamed = λ is. absurd (false≢true is);
  left = λ _ _. (omega arith, omega arith);
}

-- it was looked at again
pub looked-then : (failed : Bool) (a b c : TreeState) → TreeLooked false a b → TreeLooked failed b c → TreeLooked failed a c
looked-then failed a b c p q = record {
  contents = q.contents ∙ p.contents;
  counted = counted-then a.tally b.tally c.tally failed p.counted q.counted;
  refusals = λ exact. q.refusals (p.counted.promise ∙ exact) ∙ p.refusals exact;
  blamed = λ is some. let left = p.left refl some in q.blamed is (omega (arith, some, left.0));
  left = λ is some.
      let first = p.left refl some in
      let rest = q.left is (omega (arith, some, first.0)) in
      (omega (arith, first.0, rest.0), omega (arith, first.1, rest.1));
}

-- it was asked to create a file after it was looked at, and nothing more of that kind after it
pub refused-looked : (file : Option (List ℕ)) (a b c : TreeState) → TreeLooked false a b → Refused file b c → Refused file a c
refused-looked file a b c looked is = λ exact. is (looked.counted.promise ∙ exact) ∙ ap (refused_also file) (looked.refusals exact)

pub at-most-created : (path : List ℕ) (a b : TreeState) (result : Result Bool Failed)
    → Refused (refused_file path result) a b → RefusedAtMost path a b
at-most-created path a b (Ok true) is = inl is
at-most-created path a b (Ok false) is = inr is
at-most-created path a b (Err failed) is = inl is

pub at-most-looked : (path : List ℕ) (a b c : TreeState) → TreeLooked false a b → RefusedAtMost path b c → RefusedAtMost path a c
at-most-looked path a b c looked (inl is) = inl (refused-looked None a b c looked is)
at-most-looked path a b c looked (inr is) = inr (refused-looked (Some path) a b c looked is)

-- over nothing, and over one after another, no file was refused
pub refuses-nothing : (now : TreeState) → RefusesNone now now
refuses-nothing now = record { exact = refl; none = λ _. refl }

pub refuses-then : (a b c : TreeState) → RefusesNone a b → RefusesNone b c → RefusesNone a c
refuses-then a b c p q = record { exact = q.exact ∙ p.exact; none = λ exact. q.none (p.exact ∙ exact) ∙ p.none exact }

pub at-most-on : (path : List ℕ) (failed : Bool) (changes : List Change) (a b c : TreeState)
    → TreeEnded changes failed a b → RefusedAtMost path a b
    → Refused None b c → RefusedAtMost path a c
at-most-on path failed changes a b c ended (inl p) q = inl (λ exact. q (ended.counted.promise ∙ exact) ∙ p exact)
at-most-on path failed changes a b c ended (inr p) q = inr (λ exact. q (ended.counted.promise ∙ exact) ∙ p exact)

-- who was only looked at was to change nothing
pub looked-ended : (failed : Bool) (before now : TreeState) → TreeLooked failed before now → TreeEnded [] failed before now
looked-ended failed before now looked = record {
  stands = stands failed;
  counted = looked.counted;
  blamed = λ is takes. looked.blamed is (some before.contents takes);
  left = λ is takes. still before.contents (some before.contents takes) (looked.left is (some before.contents takes));
}
  where
    stands : (how : Bool) → StandsAfter [] how before.contents now.contents
    stands false = looked.contents
    stands true = record { made = []; rest = []; parts = refl; contents = looked.contents }

    some : (contents : Option Nodes) → TakesChanges before.guaranteed contents [] → 0 < before.guaranteed.files
    some None takes = takes.0
    some (Some nodes) takes = let first = takes.files [] [] refl in omega (arith, first)

    still : (contents : Option Nodes) → 0 < before.guaranteed.files
        → (before.guaranteed.files ≤ now.guaranteed.files) × (before.guaranteed.bytes ≤ now.guaranteed.bytes)
        → IsLeft before.guaranteed now.guaranteed contents []
    still None is left = left
    still (Some nodes) is left = record { files = omega (arith, left.0); bytes = left.1 }

-- one call after another that did not fail
pub tree-then : (first more : List Change) (failed : Bool) (a b c : TreeState) → TreeEnded first false a b → TreeEnded more failed b c
    → TreeEnded (first ++ more) failed a c
tree-then first more failed a b c p q = record {
  stands = stands failed q.stands;
  counted = counted-then a.tally b.tally c.tally failed p.counted q.counted;
  blamed = λ is takes. q.blamed is (rest takes);
  left = λ is takes.
      left-then a.guaranteed b.guaranteed c.guaranteed a.contents first more (begun takes)
      (subst (λ contents. IsLeft b.guaranteed c.guaranteed contents more) p.stands (q.left is (rest takes)));
}
  where
    stands : (how : Bool) → StandsAfter more how b.contents c.contents → StandsAfter (first ++ more) how a.contents c.contents
    stands false is = is ∙ ap (contents_after more) p.stands ∙ sym (contents_after-append a.contents first more)
    stands true prefix = record {
      made = first ++ prefix.made;
      rest = prefix.rest;
      parts = ap (λ changes. first ++ changes) prefix.parts ∙ sym (append_assoc first prefix.made prefix.rest);
      contents = prefix.contents ∙ ap (contents_after prefix.made) p.stands ∙ sym (contents_after-append a.contents first prefix.made);
    }

    begun : TakesChanges a.guaranteed a.contents (first ++ more) → IsLeft a.guaranteed b.guaranteed a.contents first
    begun takes = p.left refl (takes-prefix a.guaranteed a.contents first more takes)

    rest : TakesChanges a.guaranteed a.contents (first ++ more) → TakesChanges b.guaranteed b.contents more
    rest takes = subst (λ contents. TakesChanges b.guaranteed contents more) (sym p.stands)
        (takes-rest a.guaranteed b.guaranteed a.contents first more takes (begun takes))

-- a call that failed, where more was to come
pub tree-first : (first more : List Change) (a b : TreeState) → TreeEnded first true a b → TreeEnded (first ++ more) true a b
tree-first first more a b p = record {
  stands = record {
    made = p.stands.made;
    rest = p.stands.rest ++ more;
    parts = ap (λ changes. changes ++ more) p.stands.parts ∙ append_assoc p.stands.made p.stands.rest more;
    contents = p.stands.contents;
  };
  counted = p.counted;
  blamed = λ is takes. p.blamed is (takes-prefix a.guaranteed a.contents first more takes);
  left = λ is _. absurd (true≢false is);
}

-- the same changes after it was looked at
pub looked-tree : (changes : List Change) (failed : Bool) (a b c : TreeState) → TreeLooked false a b → TreeEnded changes failed b c
    → TreeEnded changes failed a c
looked-tree changes failed a b c p q = tree-then [] changes failed a b c (looked-ended false a b p) q

-- the same of a sink
pub sink-as-it-was : (now : SinkState) → SinkEnded [] false now now
sink-as-it-was now = record {
  holds = sym (extended-nothing now.contents);
  counted = counted-same now.tally;
  blamed = λ is _. false≢true is;
  left = λ _. omega arith;
}

pub sink-then : (first more : List ℕ) (failed : Bool) (a b c : SinkState) → SinkEnded first false a b → SinkEnded more failed b c
    → SinkEnded (first ++ more) failed a c
sink-then first more failed a b c p q = record {
  holds = holds failed q.holds;
  counted = counted-then a.tally b.tally c.tally failed p.counted q.counted;
  blamed = λ is guaranteed. q.blamed is (omega (arith, guaranteed, p.left refl, length-append first more));
  left = λ is. omega (arith, p.left refl, q.left is, length-append first more);
}
  where
    holds : (how : Bool) → HoldsAfter more how b.contents c.contents → HoldsAfter (first ++ more) how a.contents c.contents
    holds false is = is ∙ ap (λ contents. extended contents more) p.holds ∙ extended-extended a.contents first more
    holds true prefix = record {
      count = length first + prefix.count;
      within = omega (arith, prefix.within, length-append first more);
      taken = prefix.taken ∙ ap (λ contents. extended contents (take prefix.count more)) p.holds
          ∙ extended-extended a.contents first (take prefix.count more)
          ∙ ap (extended a.contents) (sym (take-append-add first more prefix.count));
    }

-- nothing was done outside
pub done-nothing : (now : Outside) → Done [] now now
done-nothing now = record { world = refl; ledger = ledger-same now.faults; remains = remains-all now.guaranteed now.world.files }

-- changes were made, and then others, or a prefix of them
pub ended-then : (first more : List Change) (stop : Option Blame) (a b c : Outside) → Done first a b → Ended more stop b c
    → Ended (first ++ more) stop a c
ended-then first more None a b c p q = record {
  world = q.world ∙ ap (λ world. changed_by world more) p.world ∙ sym (changed_by-append a.world first more);
  ledger = ledger-then a.faults b.faults c.faults Nobody p.ledger q.ledger;
  remains = remains-both a.guaranteed b.guaranteed c.guaranteed a.world.files first more p.remains
      (subst (λ contents. Remains b.guaranteed c.guaranteed contents more) contents q.remains);
}
  where
    contents : b.world.files ≡ option_map (λ nodes. files_by nodes first) a.world.files
    contents = ap (λ world. world.files) p.world ∙ files-contents a.world first
ended-then first more (Some blame) a b c p q = record {
  cut = cut-later a.world b.world c.world first more p.world q.cut;
  ledger = ledger-then a.faults b.faults c.faults blame p.ledger q.ledger;
  not_guaranteed = not-guaranteed-later blame a.guaranteed b.guaranteed a.world.files first more p.remains
      (subst (λ contents. WasNotGuaranteed blame b.guaranteed contents more) contents q.not_guaranteed);
}
  where
    contents : b.world.files ≡ option_map (λ nodes. files_by nodes first) a.world.files
    contents = ap (λ world. world.files) p.world ∙ files-contents a.world first

-- what was truncated is truncated of all that was to come
pub ended-first : (first more : List Change) (blame : Blame) (a b : Outside) → CutShort first blame a b → CutShort (first ++ more) blame a b
ended-first first more blame a b p = record {
  cut = cut-first a.world b.world first more p.cut;
  ledger = p.ledger;
  not_guaranteed = not-guaranteed-first blame a.guaranteed a.world.files first more p.not_guaranteed;
}

-- changes that touch files alone put nothing
changed-files : (world : World) (change : Change) → IsOfTree change
    → changed world change ≡ record world { files = option_map (changed_files change) world.files }
changed-files world (ToOut byte) of = elim of [ ]
changed-files world (ToErr byte) of = elim of [ ]
changed-files world (Creates path) of = refl
changed-files world (ToFile path byte) of = refl
changed-files world (Removes path) of = refl

pub changed_by-files : (world : World) (changes : List Change) → AreOfTree changes
    → changed_by world changes ≡ record world { files = contents_after changes world.files }
changed_by-files world [] of = refl
changed_by-files world (change ∷ changes) of =
    changed_by-files (changed world change) changes of.1
    ∙ ap (λ (w : World). record w { files = contents_after changes w.files }) (changed-files world change of.0)

pub files-same-outputs : (world : World) (changes : List Change) → AreOfTree changes → HaveSameOutputs (changed_by world changes) world
files-same-outputs world changes of = let is = changed_by-files world changes of in (ap (λ w. w.out) is, ap (λ w. w.err) is)

-- a tree beside two sinks
pub outside-of-tree : (changes : List Change) (failed : Bool) (before now : TreeState) (out err : SinkState) → AreOfTree changes
    → TreeEnded changes failed before now → Ended changes (blame_of_tree failed) (outside before out err) (outside now out err)
outside-of-tree changes false before now out err of p = record {
  world = ap (λ contents. record { out = out.contents; err = err.contents; files = contents }) p.stands ∙ sym (changed_by-files _ changes of);
  ledger = record { tree = p.counted; out = counted-same out.tally; err = counted-same err.tally };
  remains = record { tree = left before.contents (p.left refl); out = omega arith; err = omega arith };
}
  where
    left : (contents : Option Nodes) → (TakesChanges before.guaranteed contents changes
        → IsLeft before.guaranteed now.guaranteed contents changes)
        → IfSome contents (λ nodes. TreeTakes before.guaranteed nodes changes → TreeLeft before.guaranteed now.guaranteed nodes changes)
    left None is = tt
    left (Some nodes) is = is
outside-of-tree changes true before now out err of p = record {
  cut = record {
    made = p.stands.made;
    rest = p.stands.rest;
    parts = p.stands.parts;
    left = ap (λ contents. record { out = out.contents; err = err.contents; files = contents }) p.stands.contents
        ∙ sym (changed_by-files _ p.stands.made (each-parts IsOfTree p.stands.made p.stands.rest (subst AreOfTree p.stands.parts of)).0);
  };
  ledger = record { tree = p.counted; out = counted-same out.tally; err = counted-same err.tally };
  not_guaranteed = blamed before.contents (p.blamed refl);
}
  where
    blamed : (contents : Option Nodes) → (TakesChanges before.guaranteed contents changes → ⊥)
        → IfSome contents (λ nodes. TreeTakes before.guaranteed nodes changes → ⊥)
    blamed None is = tt
    blamed (Some nodes) is = is

-- how many bytes and files the bytes put on an output count as
to_out-counts : (bytes : List ℕ) → (bytes_out (to_out bytes) ≡ length bytes) × (bytes_err (to_out bytes) ≡ 0)
to_out-counts [] = (refl, refl)
to_out-counts (byte ∷ bytes) = let rest = to_out-counts bytes in (omega (arith, rest.0), omega (arith, rest.1))

to_err-counts : (bytes : List ℕ) → (bytes_out (to_err bytes) ≡ 0) × (bytes_err (to_err bytes) ≡ length bytes)
to_err-counts [] = (refl, refl)
to_err-counts (byte ∷ bytes) = let rest = to_err-counts bytes in (omega (arith, rest.0), omega (arith, rest.1))

to_out-files : (nodes : Nodes) (bytes : List ℕ) → (files_made nodes (to_out bytes) ≡ 0) × (files_gone (to_out bytes) ≡ 0)
to_out-files nodes [] = (refl, refl)
to_out-files nodes (byte ∷ bytes) = let rest = to_out-files nodes bytes in (omega (arith, rest.0), omega (arith, rest.1))

to_err-files : (nodes : Nodes) (bytes : List ℕ) → (files_made nodes (to_err bytes) ≡ 0) × (files_gone (to_err bytes) ≡ 0)
to_err-files nodes [] = (refl, refl)
to_err-files nodes (byte ∷ bytes) = let rest = to_err-files nodes bytes in (omega (arith, rest.0), omega (arith, rest.1))

-- a sink that failed, beside a tree and the other sink: some of its bytes are not put
pub short-of-out : (bytes : List ℕ) (files : TreeState) (before now err : SinkState) → SinkEnded bytes true before now
    → (short : CutShort (to_out bytes) ASink (outside files before err) (outside files now err)) × (short.cut.rest ≢ [])
short-of-out bytes files before now err p =
    let cut = cut-text (λ byte. ToOut byte) _ _ bytes p.holds.count p.holds.within
    (ap (λ contents. record { out = contents; err = err.contents; files = files.contents }) p.holds.taken
    ∙ sym (changed_by-out _ (take p.holds.count bytes))) in (
      record {
        cut = cut.0;
        ledger = inl (record { tree = counted-same files.tally; out = p.counted; err = counted-same err.tally });
        not_guaranteed = λ out _. p.blamed refl
            (let some = p.holds.within in omega (arith, (to_out-counts bytes).0, out (omega (arith, some, (to_out-counts bytes).0))));
      },
      cut.1,
    )

pub short-of-err : (bytes : List ℕ) (files : TreeState) (out before now : SinkState) → SinkEnded bytes true before now
    → (short : CutShort (to_err bytes) ASink (outside files out before) (outside files out now)) × (short.cut.rest ≢ [])
short-of-err bytes files out before now p =
    let cut = cut-text (λ byte. ToErr byte) _ _ bytes p.holds.count p.holds.within
    (ap (λ contents. record { out = out.contents; err = contents; files = files.contents }) p.holds.taken
    ∙ sym (changed_by-err _ (take p.holds.count bytes))) in (
      record {
        cut = cut.0;
        ledger = inr (record { tree = counted-same files.tally; out = counted-same out.tally; err = p.counted });
        not_guaranteed = λ _ err. p.blamed refl
            (let some = p.holds.within in omega (arith, (to_err-counts bytes).1, err (omega (arith, some, (to_err-counts bytes).1))));
      },
      cut.1,
    )

-- a sink beside a tree and the other sink
pub outside-of-out : (bytes : List ℕ) (failed : Bool) (files : TreeState) (before now err : SinkState)
    → SinkEnded bytes failed before now → Ended (to_out bytes) (blame_of_sink failed) (outside files before err) (outside files now err)
outside-of-out bytes false files before now err p = record {
  world = ap (λ contents. record { out = contents; err = err.contents; files = files.contents }) p.holds ∙ sym (changed_by-out _ bytes);
  ledger = record { tree = counted-same files.tally; out = p.counted; err = counted-same err.tally };
  remains = record {
    tree = same files.contents;
    out = omega (arith, p.left refl, (to_out-counts bytes).0);
    err = omega arith;
  };
}
  where
    same : (contents : Option Nodes)
        → IfSome contents (λ nodes. TreeTakes files.guaranteed nodes (to_out bytes)
        → TreeLeft files.guaranteed files.guaranteed nodes (to_out bytes))
    same None = tt
    same (Some nodes) = λ _. let none = to_out-files nodes bytes in record { files = omega (arith, none.0, none.1); bytes = omega arith }
outside-of-out bytes true files before now err p = (short-of-out bytes files before now err p).0

pub outside-of-err : (bytes : List ℕ) (failed : Bool) (files : TreeState) (out before now : SinkState)
    → SinkEnded bytes failed before now → Ended (to_err bytes) (blame_of_sink failed) (outside files out before) (outside files out now)
outside-of-err bytes false files out before now p = record {
  world = ap (λ contents. record { out = out.contents; err = contents; files = files.contents }) p.holds ∙ sym (changed_by-err _ bytes);
  ledger = record { tree = counted-same files.tally; out = counted-same out.tally; err = p.counted };
  remains = record {
    tree = same files.contents;
    out = omega arith;
    err = omega (arith, p.left refl, (to_err-counts bytes).1);
  };
}
  where
    same : (contents : Option Nodes)
        → IfSome contents (λ nodes. TreeTakes files.guaranteed nodes (to_err bytes)
        → TreeLeft files.guaranteed files.guaranteed nodes (to_err bytes))
    same None = tt
    same (Some nodes) = λ _. let none = to_err-files nodes bytes in record { files = omega (arith, none.0, none.1); bytes = omega arith }
outside-of-err bytes true files out before now p = (short-of-err bytes files out before now p).0

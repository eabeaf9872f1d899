-- The work of a task, from what was accepted to what was done; what `play` and `debug` do, step by step.
pub mod Changes
unfoldable pub use Changes.*

-- ==== Which verdict has a status.

-- ---- the verdict on what stands in a tree of known contents

pub known_verdict : (nodes : Nodes) (requested : Result Task Refusal) (found : Result Work Refusal) → Gives (Some nodes) (inquiry_of requested) found
    → found ≡ tree_verdict nodes requested
known_verdict nodes requested found given = sym given

-- ---- the status of an outcome

pub exit-small : (files : Option Nodes) (work : Work) → (outcome_of files (Ok work)).status ≤ 127
exit-small files work = grind arith

-- the verdicts that have a status
module _ (files : Option Nodes) where
  pub outcome-not-early : (found : Result Work Refusal) → IsEarly (outcome_of files found).status → ⊥
  outcome-not-early (Ok work) early = exit-not-early _ (exit-small files work) early
  outcome-not-early (Err refusal) early = refusal-not-early refusal early

  pub only_refused : (refusal : Refusal) (found : Result Work Refusal) → (outcome_of files found).status ≡ status_of refusal
      → IsRefusedWith (status_of refusal) found
  only_refused refusal (Ok work) is = absurd (refuses-no-exit _ (exit-small files work) refusal is)
  only_refused refusal (Err other) is = (other, refl, is)

  pub is_refused : (status : ℕ) (found : Result Work Refusal) → IsRefusedWith status found → (outcome_of files found).status ≡ status
  is_refused status found refused = ap (λ f. (outcome_of files f).status) refused.1 ∙ refused.2

  pub only_exit : (code : ℕ) → code ≤ 127 → (found : Result Work Refusal) → (outcome_of files found).status ≡ code → EndsWith files code found
  only_exit code small (Ok work) is = (work, refl, is)
  only_exit code small (Err refusal) is = absurd (refuses-no-exit code small refusal (sym is))

-- ==== What the work of a command is: which files it writes; and that no refusal of it is one that the words alone decide.

-- ---- what is written

-- what is done writes the outputs of the task, and runs beneath its root
pub record Writes (task : Task) (work : Work) : Type 0 where
  pub paths : written_paths (Ok work) ≡ outputs_of task
  pub root : root_of_work (Ok work) ≡ root_of task

-- what is planned writes the outputs of the task
abbrev pub PlanWrites : Task → Plan → Type 0
PlanWrites task accepted = Writes task accepted.work

pub plan-asked : (task : Task) → AsksFor (PlanWrites task) (plan_of task)
unfolding run_plan_of line_plan_of
plan-asked (tasks.Run run None) =
    asked-then (PlanWrites (tasks.Run run None)) (run_of run None) _ (run-asked run None) (λ given. record { paths = refl; root = refl })
plan-asked (tasks.Run run (Some debug)) =
    asked-then (PlanWrites (tasks.Run run (Some debug))) (run_of run (Some debug)) _ (run-asked run (Some debug))
    (λ given. record { paths = refl; root = refl })
plan-asked (tasks.Assemble task) =
    asks-then _ (PlanWrites (tasks.Assemble task)) (files_of task) _ (files-asked task) (λ files paths. record { paths = paths; root = refl })
plan-asked (tasks.Disassemble task) =
    asked-then (PlanWrites (tasks.Disassemble task)) (disassembly_of task) _ (disassembly-asked task) (λ text. record { paths = refl; root = refl })
plan-asked (tasks.Generate count) =
    asked-then (PlanWrites (tasks.Generate count)) (Answer (accepted_summary count)) _ (search (rules, then-given, source-given, script-given))
    (λ text. record { paths = refl; root = refl })
plan-asked (tasks.Line path) =
    asked-then (PlanWrites (tasks.Line path)) (machines_of path) _ (machines-asked path)
    (λ machines. elim (list_all is_of_console machines.script.events) as (λ b. IsOfInputs (PlanWrites (tasks.Line path))
    (if b then Ok (planned (RunLine (line_job machines)) []) else Err OtherEvents))
    [ true ↦ record { paths = refl; root = refl } | false ↦ omega arith ])

-- so does what is accepted
pub work-asked : (task : Task) → AsksFor (Writes task) (work_of task)
unfolding work_of
work-asked task =
    asks-then (PlanWrites task) (Writes task) (plan_of task) _ (plan-asked task)
    (λ (plan : Plan) writes. asked-then (Writes task) (free_outputs plan.included (outputs_of task)) _ (outputs-asked plan.included (outputs_of task))
    (λ free. writes))

pub found-gives : (contents : Option Nodes) (task : Task) (found : Result Work Refusal) → Gives contents (work_of task) found
    → IsOfInputs (Writes task) found
found-gives contents task found given = always-gives _ contents (work_of task) found (work-asked task) given

pub verdict-writes : (nodes : Nodes) (task : Task) (work : Work) → tree_verdict nodes (Ok task) ≡ Ok work → Writes task work
verdict-writes nodes task work is = found-gives (Some nodes) task (Ok work) is

-- ==== The plan of a task, and its outputs, as the answer of its inquiry.

-- the files of work that is planned are the outputs of the task
pub plan-outputs : (contents : Option Nodes) (task : Task) (plan : Plan) → IsPlanned contents task plan
    → outputs_of task ≡ written_paths (Ok plan.work)
plan-outputs = grind (arith, always-gives, plan-asked)

module _ (contents : Option Nodes) (task : Task) where
  -- the inputs are refused
  pub plan-refused : (refusal : Refusal) → Gives contents (plan_of task) (Err refusal) → Gives contents (work_of task) (Err refusal)
  unfolding work_of
  plan-refused = grind (arith, gives-bind, gives-answer)

  module _ (plan : Plan) (planned : IsPlanned contents task plan) where
    -- an output is
    pub outputs-refused : (refusal : Refusal) → Gives contents (free_outputs plan.included (outputs_of task)) (Err refusal)
        → Gives contents (work_of task) (Err refusal)
    unfolding work_of
    outputs-refused = grind (arith, gives-bind, gives-answer)

    -- all is accepted
    pub plan-accepted : AreFree contents plan.included (outputs_of task) → Gives contents (work_of task) (Ok plan.work)
    unfolding work_of
    plan-accepted = grind (arith, gives-bind, gives-answer)

-- ==== Files that were refused, step by step.

module _ (a b c : TreeState) (err err_now : SinkState) (looked : TreeLooked false a b) where
  at-most-after : (P : List ℕ → Type 0) → AtMostOne b c P → AtMostOne a c P
  at-most-after P (inl none) = inl (refused-then None a b c looked.refusals looked.counted.promise none)
  at-most-after P (inr one) = grind (arith, refused-then)

  -- it was looked at before
  pub counts-after : (requested : Result Task Refusal) (r : Result ℕ Halt) → CountsRefusals requested b c err err_now r
      → CountsRefusals requested a c err err_now r
  counts-after = grind (arith, at-most-after)

-- a task that is refused for an output
pub counts-refuses : (included paths : List (List ℕ)) (before now : TreeState) (refusal : Refusal) → Refuses included paths refusal before now
    → AtMostOne before now (λ path. refusal ≡ NoOutput path)
counts-refuses = grind arith

-- a program that runs beneath a root is not spoken of, where its call is not refused; without a root it makes no file
pub counts-run : (requested : Result Task Refusal) (before now : TreeState) (err err_now : SinkState) (status : ℕ) → (IsRefusing status → ⊥)
    → (HasNoRoot requested → CreateRefused None before now) → ReportsRefused requested before now err err_now status
counts-run requested before now err err_now status usual runs (inl none) = inl (runs none)
counts-run requested before now err err_now status usual runs (inr refusing) = absurd (usual refusing)

-- the line of a refusal was put, or was not
pub counts-line : (requested : Result Task Refusal) (before : HostState) (now : TreeState) (err : SinkState) (refusal : Refusal) (err_now : SinkState)
    (result : Result ℕ Stop)
    → AtMostOne before.tree now (λ path. refusal ≡ NoOutput path) → err ≡ before.err
    → Puts err err_now (refusal_line refusal) (status_of refusal) (as_step result)
    → CountsRefusals requested before.tree now before.err err_now (as_step result)
counts-line requested before now err refusal err_now (Ok status) counts kept puts = grind arith
counts-line requested before now err refusal err_now (Err stop) counts kept puts = grind arith

-- the same of objects by other names
pub passes-as : {T E : Type 0} (tree : T → TreeState) (sink : E → SinkState) (requested : Result Task Refusal) (before : TreeState) (now same : T)
    (err : SinkState) (err_now err_same : E)
    (status : ℕ) → now ≡ same → err_now ≡ err_same → ReportsRefused requested before (tree now) err (sink err_now) status
    → ReportsRefused requested before (tree same) err (sink err_same) status
passes-as tree sink requested before now same err err_now err_same status a b passes = rw (← a, ← b) passes

-- ==== The work of a task, from what was accepted to what was done.

-- what holds of the verdict that was found holds of that on the known contents of the tree
of_found : (requested : Result Task Refusal) (tree : Option Nodes) (found : Result Work Refusal) → Gives tree (inquiry_of requested) found
    → (V : Nodes → Result Work Refusal → Type 0)
    → IfSome tree (λ nodes. V nodes found) → IfSome tree (λ nodes. V nodes (tree_verdict nodes requested))
of_found requested None found given V holds = tt
of_found requested (Some nodes) found given V holds = subst (V nodes) (known_verdict nodes requested found given) holds

-- ---- what a step did

-- nobody is to blame
pub does-unblamed : (requested : Result Task Refusal) (before now : HostState) (result : Result ℕ Halt) → result_blame result ≡ Nobody
    → Performs requested (observed_outside before).world (observed_outside now).world result
    → Ledger (observed_outside before).faults (observed_outside now).faults Nobody
    → CountsRefusals requested before.tree now.tree before.err now.err result → OnRefused result (now.err ≡ before.err)
    → DoesWork requested before now result
does-unblamed = grind (arith, where_known)

-- memory ran out, and nothing was done
pub does-nothing : (requested : Result Task Refusal) (now : HostState) → DoesWork requested now now (Err (Stopped NoMemory))
does-nothing = grind (arith, does-unblamed, ledger-same)

module _ (requested : Result Task Refusal) (before now : HostState) (found : Result Work Refusal)
    (given : Gives before.tree.contents (inquiry_of requested) found) where
  abbrev files : Option Nodes
  files = before.tree.contents

  -- all of the outcome of what was found
  pub does-all : (code : ℕ) → code ≡ (outcome_of files found).status
      → (observed_outside now).world ≡ changed_by (observed_outside before).world (outcome_of files found).changes
      → Ledger (observed_outside before).faults (observed_outside now).faults Nobody
      → ReportsRefused requested before.tree now.tree before.err now.err code → DoesWork requested before now (Ok code)
  does-all = grind (arith, does-unblamed, given)

  -- a prefix of it, and whoever is to blame was not guaranteed to take it
  pub does-prefix : (stop : Stop)
      → (short : CutShort (outcome_of files found).changes (stop_blame stop) (observed_outside before) (observed_outside now))
      → MayStop files found stop short.cut.rest → ReportsRefused requested before.tree now.tree before.err now.err (early_status stop)
      → DoesWork requested before now (Err (Stopped stop))
  does-prefix stop short may passes = record {
    performs = inl (record { found = found; given = given; has = inl (short.cut, may) });
    ledger = short.ledger;
    guaranteed = of_found requested files found given
        (λ nodes v. WasNotGuaranteed (stop_blame stop) (observed_outside before).guaranteed files (outcome_of files v).changes)
        (where_known files _ (λ nodes contents. short.not_guaranteed));
    refusals = passes;
    kept = tt;
  }

-- a tree that was looked at, beside two sinks
looked-ledger : (failed : Bool) (start now : TreeState) (out err : SinkState) → TreeLooked failed start now
    → AllCounted (counts start.tally out.tally err.tally) (counts now.tally out.tally err.tally) failed false false
looked-ledger failed start now out err looked = record { tree = looked.counted; out = counted-same out.tally; err = counted-same err.tally }

-- a step that only looked at the tree: it is refused by the inquiry, or no sink failed
abbrev pub OnlyLooks : Result Task Refusal → Option Nodes → Halt → Type 0
OnlyLooks requested contents (Refused refusal) = Gives contents (inquiry_of requested) (Err refusal)
OnlyLooks requested contents (Stopped stop) = stop ≡ SinkFault → ⊥

module _ (requested : Result Task Refusal) (start now : TreeState) (out err : SinkState) where
  pub halted-looked : (halt : Halt) → OnlyLooks requested start.contents halt → TreeLooked (halted_by_tree {A = ℕ} (Err halt)) start now
      → DoesWork requested (host_state start out err) (host_state now out err) (Err halt)
  halted-looked (Refused refusal) given looked = grind (arith, given, does-unblamed, looked-ledger)
  halted-looked (Stopped NoMemory) other looked = grind (arith, does-unblamed, looked-ledger)
  halted-looked (Stopped SinkFault) other looked = absurd (other refl)
  halted-looked (Stopped TreeFault) other looked = record {
    performs = inr (ap (λ t. world t out.contents err.contents) looked.contents, inl refl);
    ledger = looked-ledger true start now out err looked;
    guaranteed = where_known start.contents _ (λ nodes contents. not-guaranteed-first TheTree (outside start out err).guaranteed start.contents [] _
        (outside-of-tree [] true start now out err tt (looked-ended true start now looked)).not_guaranteed);
    refusals = λ any. inl looked.refusals;
    kept = tt;
  }

-- the inputs were refused, or could not be read
pub halted-unready : {B : Type 0} (view : B → Plan) (task : Task) (start now : TreeState) (out err : SinkState) (halt : InquiryHalt Refusal)
    → Inquires view (plan_of task) start now (Err halt)
    → DoesWork (Ok task) (host_state start out err) (host_state now out err) (Err (halt_of_inquiry halt))
halted-unready view task start now out err (Denied refusal) asks =
    halted-looked (Ok task) start now out err (Refused refusal) (plan-refused start.contents task refusal (inquires-gives view _ start now _ asks))
    (inquires-looked view _ start now _ asks)
halted-unready view task start now out err TreeFailed asks =
    halted-looked (Ok task) start now out err (Stopped TreeFault) (λ is. cc is) (inquires-looked view _ start now _ asks)
halted-unready view task start now out err OutOfMemory asks =
    halted-looked (Ok task) start now out err (Stopped NoMemory) (λ is. cc is) (inquires-looked view _ start now _ asks)

-- who was not guaranteed to take changes, once the tree was looked at, was not so before
still-short : (blame : Blame) (a b : Guaranteed) (contents : Option Nodes) (changes : List Change) → Remains a b contents []
    → WasNotGuaranteed blame b contents changes → WasNotGuaranteed blame a contents changes
still-short blame a b None changes remains not = not-guaranteed-later blame a b None [] changes remains not
still-short blame a b (Some nodes) changes remains not = not-guaranteed-later blame a b (Some nodes) [] changes remains not

-- a step that only looks at the tree, and then the rest
pub does-after : (requested : Result Task Refusal) (start here : TreeState) (out err : SinkState) (now : HostState) (r : Result ℕ Halt)
    → TreeLooked false start here
    → DoesWork requested (host_state here out err) now r → DoesWork requested (host_state start out err) now r
does-after requested start here out err now r looked does = record {
  performs = rw looked.contents at does.performs;
  ledger = ledger-then _ _ _ (result_blame r) (looked-ledger false start here out err looked) does.ledger;
  guaranteed = IfSome_then start.contents (rw looked.contents at does.guaranteed) (λ nodes not.
      still-short (result_blame r) (outside start out err).guaranteed (outside here out err).guaranteed start.contents _
      (outside-of-tree [] false start here out err tt (looked-ended false start here looked)).remains not);
  refusals = counts-after start here now.tree err now.err looked requested r does.refusals;
  kept = does.kept;
}

-- the inputs were accepted, and the rest follows
module _ {B : Type 0} (view : B → Plan) (task : Task) (start here : TreeState) where
  pub accepted-after : (value : B) → Inquires view (plan_of task) start here (Ok value) → IsPlanned here.contents task (view value)
  accepted-after value asks =
      subst (λ t. IsPlanned t task (view value)) (sym (inquires-looked view _ start here _ asks).contents) (inquires-gives view _ start here _ asks)

  pub does-behind : (out err : SinkState) (now : HostState) (r : Result ℕ Halt) (value : B) → Inquires view (plan_of task) start here (Ok value)
      → DoesWork (Ok task) (host_state here out err) now r → DoesWork (Ok task) (host_state start out err) now r
  does-behind out err now r value asks does = does-after (Ok task) start here out err now r (inquires-looked view _ start here _ asks) does

-- ---- bytes that are put on the standard output

module _ (task : Task) (tree : TreeState) (out now err : SinkState) (plan : Plan) (accepted : IsPlanned tree.contents task plan) (bytes : List ℕ)
    (code : ℕ) where
  abbrev work : Result Work Refusal
  work = Ok plan.work

  -- all that the work does is to put these bytes, with this code
  pub does-puts : written_paths work ≡ [] → outcome_of tree.contents work ≡ record { status = code; changes = to_out bytes }
      → ((rest : List Change) → rest ≢ [] → MayStop tree.contents work SinkFault rest)
      → (r : Result ℕ Halt) → Puts out now bytes code r → DoesWork (Ok task) (host_state tree out err) (host_state tree now err) r
  does-puts none is may = go
    where
      given : Gives tree.contents (inquiry_of (Ok task)) work
      given =
          plan-accepted tree.contents task plan accepted
          (subst (λ paths. AreFree tree.contents plan.included paths) (sym (plan-outputs tree.contents task plan accepted ∙ none))
          (gives-answer tree.contents (Ok tt) (Ok tt) refl))

      go : (r : Result ℕ Halt) → Puts out now bytes code r → DoesWork (Ok task) (host_state tree out err) (host_state tree now err) r
      go (Ok answer) puts =
          let done = outside-of-out bytes false tree out now err puts.0 in
          does-all (Ok task) _ _ work given answer (puts.1 ∙ sym (ap (λ (o : Outcome). o.status) is)) (rw is done.world) done.ledger
          (λ any. inl (λ exact. refl))
      go (Err (Stopped SinkFault)) puts =
          let both : (short : CutShort (outcome_of tree.contents work).changes ASink (outside tree out err) (outside tree now err))
          × (short.cut.rest ≢ []) = rw is (short-of-out bytes tree out now err puts) in
          does-prefix (Ok task) _ _ work given SinkFault both.0 (may _ both.1) (λ any. inl (λ exact. refl))
      go (Err (Stopped NoMemory)) puts = rw puts (does-nothing (Ok task) (host_state tree out err))
      go (Err (Stopped TreeFault)) puts = absurd puts
      go (Err (Refused refusal)) puts = absurd puts

-- a text that is printed, where it was made
pub does-prints : (task : Task) (start tree : TreeState) (out now err : SinkState) (text : Vec ℕ)
    → Inquires printed_plan (plan_of task) start tree (Ok text)
    → (r : Result ℕ Halt) → Puts out now text.items 0 r → DoesWork (Ok task) (host_state start out err) (host_state tree now err) r
does-prints task start tree out now err text asks r puts =
    does-behind printed_plan task start tree out err _ r text asks
    (does-puts task tree out now err (printed_plan text) (accepted-after printed_plan task start tree text asks) text.items 0 refl refl
    (λ rest some. (refl, some)) r puts)

pub text-asks : (inquiry : Inquiry (Result (List ℕ) Refusal)) (a b : TreeState) (said : Result (Vec ℕ) (InquiryHalt Refusal))
    → Inquires (λ (text : Vec ℕ). text.items) inquiry a b said
    → Inquires printed_plan (and_then inquiry (λ text. Answer (Ok (planned (Print text) [])))) a b said
text-asks inquiry a b (Ok text) asks = inquires-last _ _ inquiry _ a b text (Ok text) asks refl
text-asks inquiry a b (Err halt) asks = inquires-stop _ _ inquiry _ a b halt asks

-- ==== Files that are written out of a source; and outputs for which a task is refused.

-- a task that is refused for an output
pub does-refuse : (task : Task) (start : TreeState) (plan : Plan) → IsPlanned start.contents task plan → (now : TreeState) (out err : SinkState)
    (refusal : Refusal) → Refuses plan.included (outputs_of task) refusal start now
    → DoesWork (Ok task) (host_state start out err) (host_state now out err) (Err (Refused refusal))
does-refuse = grind (arith, does-unblamed, outputs-refused, counted-same, counts-refuses)

-- outputs that were not all made, or not all written: by changes with which the outcome begins
module _ (task : Task) (start now : TreeState) (out err : SinkState) (plan : Plan) (is : IsPlanned start.contents task plan) where
  pub does-halt : (changes more : List Change) → AreOfTree changes → (outcome_of start.contents (Ok plan.work)).changes ≡ changes ++ more
      → ((rest : List Change) → MayStop start.contents (Ok plan.work) TreeFault rest) → (halt : Halt)
      → EndsMaking plan.included (outputs_of task) changes start now halt
      → DoesWork (Ok task) (host_state start out err) (host_state now out err) (Err halt)
  does-halt changes more of-tree whole may (Refused refusal) refuses = does-refuse task start plan is now out err refusal refuses
  does-halt changes more of-tree whole may (Stopped NoMemory) looked = grind (arith, halted-looked)
  does-halt changes more of-tree whole may (Stopped TreeFault) (inl looked) =
      halted-looked (Ok task) start now out err (Stopped TreeFault) (λ is. cc is) looked
  does-halt changes more of-tree whole may (Stopped TreeFault) (inr half) =
      let short = ended-first changes more TheTree _ _ (outside-of-tree changes true start now out err of-tree half.did) in
      let all = subst (λ c. CutShort c TheTree (outside start out err) (outside now out err)) (sym whole) short in
      does-prefix (Ok task) _ _ (Ok plan.work) (plan-accepted start.contents task plan is half.free) TreeFault all (may _) (λ any. inl half.refusals)
  does-halt changes more of-tree whole may (Stopped SinkFault) none = absurd none

module _ (task : Task) (start now : TreeState) (out err : SinkState) (texts : List Text) (included : List (List ℕ))
    (plan : IsPlanned start.contents task (planned (Write texts) included)) where
  pub does-write : (r : Result (Unit {0}) Halt) → WritesOutputs included (outputs_of task) texts start now r
      → DoesWork (Ok task) (host_state start out err) (host_state now out err) (result_and r (Ok 0))
  does-write (Ok done) wrote =
      let all = outside-of-tree (writing texts) false start now out err (written-of-tree texts) wrote.did in
      does-all (Ok task) _ _ (Ok (Write texts)) (plan-accepted start.contents task _ plan wrote.free) 0 refl all.world all.ledger
      (λ any. inl wrote.refusals)
  does-write (Err halt) ends =
      does-halt task start now out err _ plan (writing texts) [] (written-of-tree texts) (sym (append-nil (writing texts))) (λ rest. refl) halt ends

-- ==== Words that are refused, and the line of a refusal.

-- the words were refused, and nothing was done
pub words-does : (requested : Result Task Refusal) (now : HostState) (halt : InquiryHalt Refusal) → Says (λ (task : Task). task) requested (Err halt)
    → DoesWork requested now now (Err (halt_of_inquiry halt))
words-does = grind (arith, does-unblamed, gives-answer, ledger-same, does-nothing)

-- a refusal whose line was put, or was not
module _ (requested : Result Task Refusal) (before : HostState) (files : TreeState) (out err now : SinkState) (refusal : Refusal)
    (does : DoesWork requested before (host_state files out err) (Err (Refused refusal))) where
  pub refusal-does : (result : Result ℕ Stop) → Puts err now (refusal_line refusal) (status_of refusal) (as_step result)
      → DoesWork requested before (host_state files out now) (as_step result)
  refusal-does (Ok status) puts =
      let done = outside-of-err (refusal_line refusal) false files out err now puts.0 in
      does-all requested before _ (Err refusal) does.performs.given status puts.1
      (done.world ∙ ap (λ w. changed_by w (to_err (refusal_line refusal))) does.performs.same)
      (ledger-then _ _ _ Nobody does.ledger done.ledger) (counts-line requested before files err refusal now (Ok status) does.refusals does.kept puts)
  refusal-does (Err SinkFault) puts =
      let line = refusal_line refusal in
      let short = short-of-err line files out err now puts in
      let cut : (cut : IsCutOff (observed_outside before).world (outside files out now).world (to_err line)) × (cut.rest ≢ []) =
      subst (λ w. (cut : IsCutOff w (outside files out now).world (to_err line)) × (cut.rest ≢ [])) does.performs.same (short.0.cut, short.1) in
      does-prefix requested before _ (Err refusal) does.performs.given SinkFault
      (record {
        cut = cut.0;
        ledger = ledger-then _ _ _ ASink does.ledger short.0.ledger;
        not_guaranteed = (outside-of-err line true before.tree before.out before.err now (rw does.kept at puts)).not_guaranteed;
      })
      (refl, cut.1) (counts-line requested before files err refusal now (Err SinkFault) does.refusals does.kept puts)
  refusal-does (Err NoMemory) puts = grind (arith, does-unblamed, counts-line)
  refusal-does (Err TreeFault) puts = absurd puts

-- ==== What `play` and `debug` do, step by step.

-- ---- texts that are written after a run

pub one-text : (path text : List ℕ) → filling_all (requested_output (Some path) text) ≡ map (λ byte. ToFile path byte) text
one-text path text = append-nil (map (λ byte. ToFile path byte) text)

pub stays-if : (root file : Option (List ℕ)) (before now : Option Nodes) → FilesStay root before now → IfSome file (IsOutput root before)
    → IfSome file (IsFileWhereKnown now)
stays-if root None before now f there = tt
stays-if root (Some path) before now f there = f.stays path there.outside there.file

-- ---- a run, and what is done behind it

-- files that got a text stay
texts-stay : (file : Option (List ℕ)) (text : List ℕ) (before now : Outside) → Done (filling_all (requested_output file text)) before now
    → (root : Option (List ℕ)) → FilesStay root before.world.files now.world.files
texts-stay None text before now done root = rw (ap (λ (w : World). w.files) done.world) (record { stays = λ other outside there. there })
texts-stay (Some path) text before now done root =
    let files : now.world.files ≡ option_map (with_appended path text) before.world.files =
    ap (λ (w : World). w.files) (done.world ∙ ap (changed_by before.world) (one-text path text) ∙ changed_by-file before.world path text) in
    rw files (appended-stays root before.world.files path text)

-- the same of a root by another name
pub runs-at : (root same : Option (List ℕ)) (trace : RootView → Trace) (changes : Trace → List Change) (watched : Type 0) (before now : Outside)
    (result : Result RunEnd Stop)
    → root ≡ same → RunsFromRoot root trace changes watched before now result → RunsFromRoot same trace changes watched before now result
runs-at root same trace changes watched before now result is runs = subst (λ r. RunsFromRoot r trace changes watched before now result) is runs

-- how a run ended behind which a text was to be written
abbrev pub run_then : Result (Unit {0}) Failed → RunEnd → Result RunEnd Stop
run_then written end = result_or (result_and written (Ok end)) (Err TreeFault)

pub shown-then : (P : Type 0) (written : Result (Unit {0}) Failed) (end : RunEnd) → P → OnOk (run_then written end) P
shown-then P (Ok x) end p = p
shown-then P (Err failed) end p = tt

module _ (root : Option (List ℕ)) (trace : RootView → Trace) (first : Trace → List Change) (watched : Type 0) (before : Outside) where
  -- the same changes by another name, and a watcher that may want memory too
  pub runs-as : (same : Trace → List Change) (wider : Type 0) (now : Outside) (result : Result RunEnd Stop) → ((t : Trace) → first t ≡ same t)
      → (watched → wider)
      → RunsFromRoot root trace first watched before now result → RunsFromRoot root trace same wider before now result
  runs-as = grind arith

  -- it stopped, and nothing was done behind it
  pub runs-first : (more : Trace → List Change) (now : Outside) (stop : Stop) → RunsFromRoot root trace first watched before now (Err stop)
      → RunsFromRoot root trace (λ t. first t ++ more t) watched before now (Err stop)
  runs-first more now stop runs = record {
    from = λ root_view at files. let run = runs.from root_view at files in record {
      made = ended-first (first (trace root_view)) (more (trace root_view)) _ before now run.made;
      ends = tt;
      names = run.names;
    };
    ledger = runs.ledger;
    memory = runs.memory;
    files = tt;
    code = tt;
  }

  -- a text was written behind it, or the tree failed
  pub runs-then : (file : Option (List ℕ)) (text : List ℕ) (last : Trace → List ℕ) (middle now : Outside) (end : RunEnd)
      → RunsFromRoot root trace first watched before middle (Ok end)
      → AtRootView root before.world.files (λ root_view. text ≡ last (trace root_view)) → (written : Result (Unit {0}) Failed)
      → Ended (filling_all (requested_output file text)) (blame_of_tree (is_err written)) middle now
      → RunsFromRoot root trace (λ t. first t ++ filling_all (requested_output file (last t))) watched before now (run_then written end)
  runs-then file text last middle now end runs same = go
    where
      both : (blame : Option Blame) → Ended (filling_all (requested_output file text)) blame middle now
          → AtRootView root before.world.files
          (λ root_view. Ended (first (trace root_view) ++ filling_all (requested_output file (last (trace root_view)))) blame before now)
      both blame ended root_view at files =
          ended-then (first (trace root_view)) (filling_all (requested_output file (last (trace root_view)))) blame before middle now
          (runs.from root_view at files).made
          (subst (λ t. Ended (filling_all (requested_output file t)) blame middle now) (same root_view at files) ended)

      go : (written : Result (Unit {0}) Failed) → Ended (filling_all (requested_output file text)) (blame_of_tree (is_err written)) middle now
          → RunsFromRoot root trace (λ t. first t ++ filling_all (requested_output file (last t))) watched before now (run_then written end)
      go (Ok x) ended = record {
        from = λ root_view at files. record { made = both None ended root_view at files; ends = (runs.from root_view at files).ends; names = tt };
        ledger = ledger-then before.faults middle.faults now.faults Nobody runs.ledger ended.ledger;
        memory = tt;
        files = record {
          stays = λ path outside there. (texts-stay file text middle now ended root).stays path outside
              (runs.files.stays path outside there);
        };
        code = runs.code;
      }
      go (Err failed) ended = record {
        from = λ root_view at files. record { made = both (Some TheTree) ended root_view at files; ends = tt; names = λ wanted. absurd (cc wanted) };
        ledger = ledger-then before.faults middle.faults now.faults TheTree runs.ledger ended.ledger;
        memory = λ wanted. absurd (cc wanted);
        files = tt;
        code = tt;
      }

-- ---- the files that a run writes

log-one : (P : List ℕ → Type 0) (debug : Option Debugging) → IfSome (log_of (option_map (λ debugging. debugging.task) debug)) P
    → IfSome debug (λ d. P d.task.log)
log-one P None holds = tt
log-one P (Some d) holds = holds

-- how a task ended whose run did
abbrev pub run_answer : Result RunEnd Stop → Result ℕ Halt
run_answer (Ok end) = Ok end.exit
run_answer (Err stop) = Err (Stopped stop)

same-blame : (result : Result RunEnd Stop) → blame_of_result result ≡ result_blame (run_answer result)
same-blame result = grind arith

-- ---- what a run does to the outside

-- the outputs were not made
pub does-unmade : (task : Task) (start : TreeState) (job : RunJob) (included : List (List ℕ))
    → IsPlanned start.contents task (planned (Run job) included)
    → (now : TreeState) (out err : SinkState) (halt : Halt) → MakesOutputs included (outputs_of task) start now (Err halt)
    → DoesWork (Ok task) (host_state start out err) (host_state now out err) (Err halt)
unfolding running
does-unmade task start job included plan now out err halt ends =
    let rest = run_changes job (trace_of start.contents job) in
    does-halt task start now out err _ plan (creating_all (outputs_of task)) rest (made-of-tree (outputs_of task))
    (ap (λ paths. creating_all paths ++ rest) (sym (plan-outputs start.contents task _ plan))) (λ left. tt) halt ends

-- a run may stop: memory runs out to the debugger, or where there is a root and the run takes the names of a folder beneath it
may-stop : (files : Option Nodes) (job : RunJob) (stop : Stop) (left : List Change) → (stop ≡ NoMemory → IsSome job.debug ⊎ IsSome job.task.root)
    → (stop ≡ NoMemory → IsSome job.debug ⊎ TraceTakesNames (trace_of files job)) → MayStop files (Ok (Run job)) stop left
may-stop = grind arith

-- a bus over new devices and a tree represents the start of a run
pub at-start : {T O E : Type 0} (contents_of_tree : T → Option Nodes) (bus : Bus T O E) (devices : Devices) (tree : T) (script : ScriptView)
    (root_view : RootView)
    → bus.devices.now ≡ devices → bus.tree.now ≡ tree → root_view.root ≡ devices.root → AreNew devices script devices.root
    → HasFiles (contents_of_tree tree) root_view.root root_view.part root_view.parent
    → BusRepresents contents_of_tree bus (first_devices script root_view)
at-start contents_of_tree bus devices tree script root_view held borrowed root new files = record {
  devices = rw (held, root) (new root_view.part root_view.parent);
  files = rw borrowed files;
}

-- the folder of a program's own files once the outputs were made
root_view-files : (tree made : Option Nodes) (task : Task) (out err : Option (List ℕ)) → HasApartOutputs task
    → world made out err ≡ changed_by (world tree out err) (creating_all (outputs_of task))
    → HasFiles made (root_of task) (root_view_in tree (root_of task)).part
    (root_view_in tree (root_of task)).parent ⊎ ((tree ≡ None) × IsSome (root_of task))
root_view-files None made task out err apart is = grind (arith, files-contents)
root_view-files (Some nodes) made task out err apart is =
    let root = root_of task in
    let now : made ≡ Some (files_by nodes (creating_all (outputs_of task))) = ap (λ w. w.files) is
    ∙ files-contents (world (Some nodes) out err) (creating_all (outputs_of task)) in
    let kept : root_view_in (Some (files_by nodes (creating_all (outputs_of task)))) root ≡ root_view_in (Some nodes) root =
    root_view-made root (outputs_of task) nodes (all-apart task apart) in
    inl (rw now (sym (ap (λ h. h.part) kept), sym (ap (λ h. h.parent) kept)))

-- a machine that is ready runs the trace of its job
module _ (run : RunTask) (asked : Option DebugTask) (before made : TreeState) (prepared : Prepared) (of : IsPreparedRun run asked before made prepared)
    (apart : HasApartOutputs (tasks.Run run asked)) where
  abbrev start : TreeState
  start = of.start

  abbrev task : Task
  task = tasks.Run run asked

  abbrev debug : Option Debugging
  debug = prepared_debugging prepared

  abbrev ready_job : RunJob
  ready_job = prepared_job run of.rom prepared

  abbrev ready_view : RootView
  ready_view = root_view_in start.contents run.root

  plan : IsPlanned start.contents task (prepared_plan run of.rom prepared)
  plan = accepted-after (prepared_plan run of.rom) task before start prepared of.asks

  outputs : outputs_of task ≡ job_outputs ready_job
  outputs = plan-outputs start.contents task _ plan

  ready-trace : task_trace run prepared.machine.value ready_view ≡ trace_of start.contents ready_job
  ready-trace = ap (reference_trace _ _ prepared.machine.value.script ready_view) of.ready.core

  abbrev IsReadyOutput : List ℕ → Type 0
  IsReadyOutput path = IsOutput run.root made.contents path

  output-at : (path : List ℕ) → list_any (bytes_eq path) (job_outputs ready_job) ≡ true → IsReadyOutput path
  output-at path among =
      let here : list_any (bytes_eq path) (outputs_of task) ≡ true = rw outputs among in
      record { file = of.makes.files path here; outside = outputs-outside task path apart here }

  one-of : (file : Option (List ℕ)) → ((path : List ℕ) → list_any (bytes_eq path) (option_to_list file) ≡ true
      → list_any (bytes_eq path) (job_outputs ready_job) ≡ true) → IfSome file IsReadyOutput
  one-of None all = tt
  one-of (Some path) all = output-at path (all path (ap (λ b. b || false) ((bytes_eq-Decides path path).1 refl)))

  pub ready-log : IfSome debug (λ d. IsOutput run.root made.contents d.task.log)
  ready-log = log-one IsReadyOutput debug (one-of (log_of (option_map (λ debugging. debugging.task) debug))
      (λ path among. simp (list_any-append, among)))

  pub ready-files : RunFiles run made.contents
  ready-files = grind (arith, one-of, list_any-append, or-true)

  -- the run, behind outputs that were made
  module _ (out err : SinkState) (now : HostState) (refuses : run.root ≡ None → RefusesNone made now.tree) where
    begun : Done (creating_all (outputs_of task)) (outside start out err) (outside made out err)
    begun = outside-of-tree (creating_all (outputs_of task)) false start made out err (made-of-tree (outputs_of task)) of.makes.did

    root_view : HasFiles made.contents run.root ready_view.part ready_view.parent ⊎ ((start.contents ≡ None) × IsSome run.root)
    root_view = root_view-files start.contents made.contents task out.contents err.contents apart begun.world

    given : Gives start.contents (inquiry_of (Ok task)) (Ok (Run ready_job))
    given = plan-accepted start.contents task _ plan of.makes.free

    abbrev Went : Result RunEnd Stop → Type 0
    Went result = RunsFromRoot run.root (task_trace run prepared.machine.value) (logged_changes run prepared.machine.value debug) (IsSome debug)
        (outside made out err) (observed_outside now) result

    abbrev Ran : Result RunEnd Stop → Type 0
    Ran result = RunsOverOutside (trace_of start.contents ready_job) (logged_changes run prepared.machine.value debug (trace_of start.contents ready_job))
        (IsSome debug) (outside made out err) (observed_outside now) result

    -- all of it, with the outputs
    all : (result : Result RunEnd Stop) → Ran result
        → Ended (running start.contents ready_job) (blame_if result) (outside start out err) (observed_outside now)
    unfolding running
    all result ran =
        rw outputs at (ended-then (creating_all (outputs_of task)) (logged_changes run prepared.machine.value debug (trace_of start.contents ready_job))
        (blame_if result)
        (outside start out err) (outside made out err) (observed_outside now) begun ran.made)

    none-refused : HasNoRoot (Ok task) → CreateRefused None start now.tree
    none-refused none = refused-then None start made now.tree of.makes.refusals of.makes.did.counted.promise (refuses none).none

    passes : (result : Result RunEnd Stop) → Went result → CountsRefusals (Ok task) start now.tree err now.err (run_answer result)
    passes (Ok end) runs =
        counts-run (Ok task) start now.tree err now.err end.exit (λ refusing. refuses-no-exit end.exit runs.code refusing.0 refusing.1) none-refused
    passes (Err stop) runs =
        counts-run (Ok task) start now.tree err now.err (early_status stop) (λ refusing. refusal-not-early refusing.0 (stop, sym refusing.1)) none-refused

    -- where a tree tells what lies beneath the root
    does-contents : (result : Result RunEnd Stop) → Went result → Ran result → DoesWork (Ok task) (host_state start out err) now (run_answer result)
    does-contents (Ok end) runs ran =
        let done = all (Ok end) ran in
        does-all (Ok task) (host_state start out err) now _ given end.exit (ap (λ (e : RunEnd). e.exit) ran.ends) done.world done.ledger
        (passes (Ok end) runs)
    does-contents (Err stop) runs ran =
        let short : CutShort (running start.contents ready_job) (stop_blame stop) (outside start out err) (observed_outside now) =
        rw (same-blame (Err stop)) at (all (Err stop) ran) in
        does-prefix (Ok task) (host_state start out err) now _ given stop short
        (may-stop start.contents ready_job stop short.cut.rest runs.memory ran.names)
        (passes (Err stop) runs)

    -- where its contents are unknown
    performs : HasUnknownContents start.contents (Ok (Run ready_job)) → (result : Result RunEnd Stop) → Went result
        → Performs (Ok task) (world start.contents out.contents err.contents) (observed_outside now).world (run_answer result)
    performs unknown (Ok end) runs = inl (record { found = Ok (Run ready_job); given = given; has = inr (unknown, runs.code) })
    performs unknown (Err stop) runs = inl (record { found = Ok (Run ready_job); given = given; has = inr (unknown, tt) })

    does-ready : (result : Result RunEnd Stop) → Went result → DoesWork (Ok task) (host_state start out err) now (run_answer result)
    does-ready = grind (arith, root_view, does-contents, ready-trace, performs, ledger-then, begun, same-blame, passes)

    pub does-run : (result : Result RunEnd Stop) → Went result → DoesWork (Ok task) (host_state before out err) now (run_answer result)
    does-run result runs = does-behind (prepared_plan run of.rom) task before start out err now (run_answer result) prepared of.asks (does-ready result runs)

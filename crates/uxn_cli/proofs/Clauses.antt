-- The clauses of a call, from its outcome.
pub mod Works
unfoldable pub use Works.*

-- ==== The clauses of a call, from its outcome.

-- it ended early
pub record EndsEarly (c : Call) : Type 0 where
  pub stop : Stop
  pub status : c.status ≡ early_status stop
  pub stands : AnswersCall (call_request c) c.before.world c.now.world (Err stop)

-- so of known contents
pub record StopsEarly (c : Call) (nodes : Nodes) : Type 0 where
  pub stop : Stop
  pub status : c.status ≡ early_status stop
  pub stands : (c.now.world ≡ c.before.world) ⊎ HasDone (tree_verdict nodes (call_request c)) c.before.world c.now.world (Err stop)

-- the outcome that a call has over known contents
abbrev pub known_outcome : Call → Nodes → Outcome
known_outcome c nodes = outcome_of c.before.world.files (tree_verdict nodes (call_request c))

-- ---- statuses

pub outcome_usual : (files : Option Nodes) (found : Result Work Refusal) (before now : World) (answer : ℕ)
    → HasOutcome (outcome_of files found) before now answer → IsEarly answer → ⊥
outcome_usual files found before now answer has early = outcome-not-early files found (early.0, sym has.status ∙ early.1)

ended_usual : (requested : Result Task Refusal) (before now : World) (answer : ℕ) → HasDoneWork requested before now (Ok answer) → IsEarly answer → ⊥
ended_usual = grind (arith, outcome_usual, exit-not-early)

-- a status comes exactly where a verdict has it, and after an early end no such status does
exactly_by : (files : Option Nodes) (found : Result Work Refusal) (answer status : ℕ) (P : Type 0) → answer ≡ (outcome_of files found).status
    → ((outcome_of files found).status ≡ status → P) → (P → (outcome_of files found).status ≡ status) → IsExactly answer status P
exactly_by files found answer status P same only whenever = record { only = λ e. only (sym same ∙ e); whenever = λ p. inl (same ∙ whenever p) }

exactly_early : (answer status : ℕ) (P : Type 0) → (IsEarly status → ⊥) → IsEarly answer → IsExactly answer status P
exactly_early answer status P usual early = record { only = λ e. absurd (usual (early.0, sym e ∙ early.1)); whenever = λ p. inr early }

-- words that are refused with a status of theirs are so whatever the tree
module _ (status : ℕ) (tree : Option Nodes) (found : Result Work Refusal) where
  refused_by : (requested : Result Task Refusal) → Gives tree (inquiry_of requested) found → IsRefusedWith status requested
      → IsRefusedWith status found
  refused_by (Err refusal) given refused = grind (arith, answer-gives)
  refused_by (Ok task) given refused = absurd cc

  requested_refused : (requested : Result Task Refusal) → Gives tree (inquiry_of requested) found → status ≤ 129 → IsRefusedWith status found
      → IsRefusedWith status requested
  requested_refused (Err refusal) given of refused = grind (arith, answer-gives)
  requested_refused (Ok task) given of refused = grind (arith, found-gives)

-- what is refused is told
refused_known : (tree : Option Nodes) (refusal : Refusal) → HasUnknownContents tree (Err refusal) → ⊥
refused_known tree refusal unknown = grind arith

refusal_by : (requested : Result Task Refusal) (before now : World) (answer : ℕ) → HasDoneWork requested before now (Ok answer) ⊎ IsEarly answer
    → IsRefusing answer → (refusal : Refusal) × HasOutcome (outcome_of before.files (Err refusal)) before now answer
refusal_by = grind (arith, refusal-not-early, refuses-no-exit, exit-small)

module _ (c : Call) (comes : ComesOut c) where
  either_way : HasDoneWork (call_request c) c.before.world c.now.world (Ok c.status) ⊎ EndsEarly c
  either_way = go comes.outcome.0 comes.outcome.1 comes.outcome.2
    where
      go : (result : Result ℕ Stop) → c.status ≡ step_status result → AnswersCall (call_request c) c.before.world c.now.world result
          → HasDoneWork (call_request c) c.before.world c.now.world (Ok c.status) ⊎ EndsEarly c
      go (Ok answer) is (inl done) = inl (rw is done)
      go (Ok answer) is (inr nothing) = absurd (elim nothing.1 [ inl fault ↦ cc fault | inr fault ↦ cc fault ])
      go (Err stop) is answers = inr (record { stop = stop; status = is; stands = answers })

  early_is : EndsEarly c → IsEarly c.status
  early_is ends = (ends.stop, ends.status)

  -- what was done is done of the verdict on what stands in the tree
  done_known : (nodes : Nodes) → c.before.world.files ≡ Some nodes → (result : Result ℕ Stop)
      → HasDoneWork (call_request c) c.before.world c.now.world result
      → HasDone (tree_verdict nodes (call_request c)) c.before.world c.now.world result
  done_known = grind (arith, known_verdict)

  -- the answer is that of the outcome, or the call ended early
  pub ends_known : (nodes : Nodes) → c.before.world.files ≡ Some nodes
      → HasOutcome (known_outcome c nodes) c.before.world c.now.world c.status ⊎ StopsEarly c nodes
  ends_known nodes contents = elim either_way [
    | inl done ↦ inl (done_known nodes contents (Ok c.status) done)
    | inr early ↦ inr (record {
      stop = early.stop;
      status = early.status;
      stands = elim early.stands [ inl done ↦ inr (done_known nodes contents (Err early.stop) done) | inr nothing ↦ inl nothing.0 ];
    })
  ]

  -- what the words alone decide
  exactly_requested : (refusal : Refusal) → status_of refusal ≤ 129
      → IsExactly c.status (status_of refusal) (IsRefusedWith (status_of refusal) (call_request c))
  exactly_requested refusal of = elim either_way [
    | inr early ↦ exactly_early c.status _ _ (refusal-not-early refusal) (early_is early)
    | inl ended ↦
        let files = c.before.world.files in
        let refused = refused_by (status_of refusal) files ended.found (call_request c) ended.given in
        elim ended.has [
          | inl has ↦
              exactly_by files ended.found c.status _ _ has.status
              (λ e. requested_refused (status_of refusal) files ended.found (call_request c) ended.given of
              (only_refused files refusal ended.found e))
              (λ p. is_refused files (status_of refusal) ended.found (refused p))
          | inr unknown ↦ record {
            only = λ e. absurd (refuses-no-exit c.status unknown.1 refusal e);
            whenever = λ p. absurd (refused_known files (refused p).0 (subst (HasUnknownContents files) (refused p).1 unknown.0));
          }
        ]
  ]

  -- a refusal puts its one line on the error output, and nothing else
  pub refusal_of : IsRefusing c.status
      → (refusal : Refusal) × HasOutcome (outcome_of c.before.world.files (Err refusal)) c.before.world c.now.world c.status
  refusal_of refusing = refusal_by _ _ _ _ (elim either_way [ inl done ↦ inl done | inr early ↦ inr (early_is early) ]) refusing

  pub line_put : (refusing : IsRefusing c.status)
      → c.now.world ≡ record c.before.world { err = extended c.before.world.err (refusal_line (refusal_of refusing).0) }
  line_put refusing = let r = refusal_of refusing in r.1.world ∙ changed_by-err c.before.world (refusal_line r.0)

  pub puts_line : IsRefusing c.status → PutsLine c.before.world.err c.now.world.err
  puts_line refusing = (refusal_text (refusal_of refusing).0, ap (λ w. w.err) (line_put refusing))

  -- what stands in the tree decides
  exactly_known : (nodes : Nodes) → c.before.world.files ≡ Some nodes → (status : ℕ) → (IsEarly status → ⊥) → (P : Type 0)
      → ((known_outcome c nodes).status ≡ status → P) → (P → (known_outcome c nodes).status ≡ status) → IsExactly c.status status P
  exactly_known = grind (arith, ends_known, exactly_by, exactly_early)

  pub has_statuses : HasStatuses c
  has_statuses =
      let files = c.before.world.files in
      record {
        requested = exactly_requested;
        refused = where_known files _ (λ nodes contents refusal.
            let verdict = tree_verdict nodes (call_request c) in
            exactly_known nodes contents (status_of refusal) (refusal-not-early refusal) _ (only_refused files refusal verdict)
            (is_refused files (status_of refusal) verdict));
        accepted = where_known files _ (λ nodes contents code small.
            exactly_known nodes contents code (exit-not-early code small) _ (only_exit files code small (tree_verdict nodes (call_request c)))
            (λ ends. ap (λ v. (outcome_of files v).status) ends.1 ∙ ends.2));
      }

  -- what is accepted ends with its exit code, unless a count rose or memory ran out
  completes : (nodes : Nodes) → c.before.world.files ≡ Some nodes → (TreeRose OutRose ErrRose : Type 0) → (c.status ≡ 136 → TreeRose)
      → (c.status ≡ 137 → OutRose ⊎ ErrRose) → (work : Work) → tree_verdict nodes (call_request c) ≡ Ok work
      → (TreeRose → ⊥) → (OutRose → ⊥) → (ErrRose → ⊥) → (c.status ≡ (outcome_of c.before.world.files (Ok work)).status) ⊎ (c.status ≡ 138)
  completes = grind (arith, ends_known)

  -- when out of memory all is as it was, or the verdict is of a run in which it may run out
  wanting : (nodes : Nodes) → c.before.world.files ≡ Some nodes → c.status ≡ 138
      → (c.now.world ≡ c.before.world) ⊎ MayRunOut c.before.world.files (tree_verdict nodes (call_request c))
  wanting = grind (arith, ends_known, outcome_usual)

  pub ends_early : EndsEarlyByFaults c
  ends_early = let ledger = comes.ledger in grind (arith, ledger, where_known, completes, tree_rose, sink_rose, wanting)

  -- after an early end a prefix of the changes stands
  pub is_cut_short : IsCutShort c
  is_cut_short = where_known c.before.world.files _ (λ nodes contents is. elim (ends_known nodes contents) [
    | inl has ↦ absurd (outcome_usual c.before.world.files (tree_verdict nodes (call_request c)) c.before.world c.now.world c.status has is)
    | inr early ↦ elim early.stands [
      | inl same ↦ record { made = []; rest = (known_outcome c nodes).changes; parts = refl; left = same }
      | inr done ↦ done.0
    ]
  ])

-- ---- a call results in it answered or stopped

answers_step : (requested : Result Task Refusal) (before now : World) (result : Result ℕ Stop) → Performs requested before now (as_step result)
    → AnswersCall requested before now result
answers_step requested before now (Ok status) performs = performs
answers_step requested before now (Err stop) performs = performs

-- the status says who is to blame
blame_as : (requested : Result Task Refusal) (before now : World) (result : Result ℕ Stop) → AnswersCall requested before now result
    → status_blame (step_status result) ≡ result_blame (as_step result)
blame_as requested before now (Ok status) (inl done) = grind (arith, ended_usual, blameless)
blame_as requested before now (Ok status) (inr nothing) = absurd (elim nothing.1 [ inl is ↦ cc is | inr is ↦ cc is ])
blame_as requested before now (Err stop) answers = blame_early stop

pub comes_out : (words : List (List ℕ)) (before now : HostState) (result : Result ℕ Stop) → DoesWork (request words) before now (as_step result)
    → ComesOut (record { words = words; before = observed_outside before; now = observed_outside now; status = step_status result })
comes_out = grind (arith, answers_step, blame_as)

-- ==== What other paths keep.

-- what is to be done over a tree leaves a path alone that is no output and lies outside the root
found-spares : (requested : Result Task Refusal) (files : Option Nodes) (nodes : Nodes) (path : List ℕ) → IfOk requested (λ task. IsAside task path)
    → AllByRecursion (Spares path) (outcome_of files (tree_verdict nodes requested)).changes
found-spares (Err refusal) files nodes path aside = outcome-spares path files (Err refusal) refl refl
found-spares (Ok task) files nodes path aside = go (tree_verdict nodes (Ok task)) (found-gives (Some nodes) task (tree_verdict nodes (Ok task)) refl)
  where
    go : (found : Result Work Refusal) → IsOfInputs (Writes task) found → AllByRecursion (Spares path) (outcome_of files found).changes
    go (Err refusal) writes = outcome-spares path files (Err refusal) refl refl
    go (Ok work) writes = outcome-spares path files (Ok work) (ap (list_any (bytes_eq path)) writes.paths ∙ aside.output)
        (ap (λ root. suits root (Some path)) writes.root ∙ aside.outside)

module _ (c : Call) (comes : ComesOut c) where
  keeps_others : KeepsOthers (call_request c) c.before.world.files c.now.world.files
  keeps_others path aside =
      where_known c.before.world.files _ (λ nodes contents.
      let spares = found-spares (call_request c) c.before.world.files nodes path aside in
      let kept : contents_at path c.now.world.files ≡ contents_at path c.before.world.files = elim (ends_known c comes nodes contents) [
        | inl has ↦ ap (λ w. contents_at path w.files) has.world ∙ spared path c.before.world (known_outcome c nodes).changes spares
        | inr early ↦ elim early.stands [
          | inl same ↦ ap (λ w. contents_at path w.files) same
          | inr cut ↦ spared-prefix path c.before.world c.now.world (known_outcome c nodes).changes spares cut.0
        ]
      ] in
      kept-node path (Some nodes) c.now.world.files (kept ∙ ap (contents_at path) contents))

  pub leaves_the_rest : LeavesTheRest c
  leaves_the_rest = record {
    others = keeps_others;
    untouched = λ refusing. ap (λ w. w.files) (line_put c comes refusing);
    quiet = λ refusing. ap (λ w. w.out) (line_put c comes refusing);
    one_line = puts_line c comes;
  }

-- ==== What stands after an early end.

-- what is written by work that was truncated
pub holds-prefix : (path : List ℕ) (requested : Result Task Refusal) (before : World) (nodes : Nodes) (made rest : List Change)
    → IfOk requested HasApartOutputs → before.files ≡ Some nodes
    → (outcome_of before.files (tree_verdict nodes requested)).changes ≡ made ++ rest → IsOutputOf (tree_verdict nodes requested) path
    → HoldsFilePrefix (contents_at path before.files) (contents_at path (changed_by before made).files)
    (contents_at path (changed_by before (outcome_of before.files (tree_verdict nodes requested)).changes).files)
holds-prefix path (Err refusal) before nodes made rest apart contents parts whole = absurd cc
holds-prefix path (Ok task) before nodes made rest apart contents parts whole = go (tree_verdict nodes (Ok task)) refl parts whole
  where
    go : (found : Result Work Refusal) → tree_verdict nodes (Ok task) ≡ found → (outcome_of before.files found).changes ≡ made ++ rest
        → IsOutputOf found path
        → HoldsFilePrefix (contents_at path before.files) (contents_at path (changed_by before made).files)
        (contents_at path (changed_by before (outcome_of before.files found).changes).files)
    go (Err refusal) e p w = absurd cc
    go (Ok work) e p w =
        let writes = verdict-writes nodes task work e in
        let outside = outputs-outside task path apart (ap (list_any (bytes_eq path)) (sym writes.paths) ∙ w) in
        let adds = later-keeps path (Adds path) (spares-adds path) before.files (Ok work) (rw writes.root outside)
        (each-of _ (λ file byte. tt) (written_paths (Ok work))) in
        rw p (file-prefix path (written_paths (Ok work)) _ made rest before w adds (sym (made-first before.files (Ok work)) ∙ p))

-- a prefix of the changes gives a prefix of each
pub leaves_prefixes : (c : Call) → IsCutShort c → LeavesPrefixes c
leaves_prefixes c short =
    let before = c.before.world in
    where_both before.files (λ nodes. IsEarly c.status
    → IsCutOff before c.now.world (outcome_of before.files (tree_verdict nodes (call_request c))).changes) _ short
    (λ nodes contents is early.
    let verdict = tree_verdict nodes (call_request c) in
    let cut = is early in
    let first = changed_by-adds before cut.made in
    let last = changed_by-adds (changed_by before cut.made) cut.rest in
    let whole : changed_by before (outcome_of before.files verdict).changes ≡ changed_by (changed_by before cut.made) cut.rest =
    ap (changed_by before) cut.parts ∙ changed_by-append before cut.made cut.rest in
    subst (HoldsPrefixes verdict before) (sym cut.left) (record {
      out = record { kept = first.0; prefix = subst (λ (w : World). IsPrefixOf (changed_by before cut.made).out w.out) (sym whole) last.0 };
      err = record { kept = first.1; prefix = subst (λ (w : World). IsPrefixOf (changed_by before cut.made).err w.err) (sym whole) last.1 };
      files = λ path is. holds-prefix path (call_request c) before nodes cut.made cut.rest (requested_apart c.words) contents cut.parts is;
    }))

-- ==== `debug` and `play` with the same items.

-- `debug` results in a run under a debugger, and `play` in the same run
pub plays-too : (nodes : Nodes) (run : RunTask) (debug : DebugTask) (work : Work) → tree_verdict nodes (Ok (tasks.Run run (Some debug))) ≡ Ok work
    → (one : ComeToOneRun (Ok work) (tree_verdict nodes (Ok (tasks.Run run None)))) × (one.debugging.task ≡ debug)
unfolding work_of run_plan_of
plays-too nodes run debug work e =
    let written = run_outputs run None in
    let plan = answered nodes (plan_of (tasks.Run run (Some debug))) _ work e in
    let given = answered nodes (run_of run (Some debug)) _ plan.value plan.first in
    let is : run_plan run (Some debug) given.value ≡ plan.value = same_ok _ plan.value given.rest in
    let free = answered nodes (free_outputs plan.value.included (debug.log ∷ written)) _ work plan.rest in
    let last = (answered nodes (free_output plan.value.included debug.log) _ tt free.first).rest in (
      record {
        job = run_job run None given.value;
        debugging = given_debugging given.value debug;
        debugs = ap Ok (sym (same_ok _ work free.rest) ∙ ap (λ (p : Plan). p.work) (sym is));
        plays = answer-more nodes (plan_of (tasks.Run run None)) _ (run_plan run None given.value)
            (answer-more nodes (run_of run None) _ _ (plays-given nodes run debug given.value given.first).1)
            ∙ answer-more nodes (free_outputs given.value.program.included written) _ tt
            (subst (λ (p : Plan). answer_in nodes (free_outputs p.included written) ≡ Ok (tt {0})) (sym is) last);
      },
      refl,
    )

-- ---- what is done

-- the log is made before a run, and written behind it
pub log_around : (files : Option Nodes) (job : RunJob) (debugging : Debugging) → running files (watched job debugging) ≡ with_log files job debugging
unfolding running
log_around = grind (arith, common_steps)

-- all but the log is as without the debugger
module _ (files : Option Nodes) (before : World) (job : RunJob) (debugging : Debugging) where
  abbrev first : List Change
  first = creating_all (debugging.task.log ∷ [])

  abbrev last : List Change
  last = filling_all (log_texts (Some debugging) (trace_of files job))

  abbrev shown : World
  shown = changed_by before (running files (watched job debugging))

  abbrev done : World
  done = changed_by before (running files (unwatched job))

  parted : shown ≡ changed_by (changed_by (changed_by before first) (running files (unwatched job))) last
  parted = grind (arith, log_around, changed_by-append)

  same-outputs : HaveSameOutputs shown done
  same-outputs =
      let middle = changed_by (changed_by before first) (running files (unwatched job)) in
      let log = files-same-outputs middle last (filled-of-tree (log_texts (Some debugging) (trace_of files job))) in
      let run = outputs-after (changed_by before first) before (running files (unwatched job))
      (files-same-outputs before first (made-of-tree (debugging.task.log ∷ []))) in
      (ap (λ w. w.out) parted ∙ log.0 ∙ run.0, ap (λ w. w.err) parted ∙ log.1 ∙ run.1)

  pub same-files : (path : List ℕ) → bytes_eq path debugging.task.log ≡ false → contents_at path shown.files ≡ contents_at path done.files
  same-files path apart =
      ap (λ w. contents_at path w.files) parted
      ∙ spared path (changed_by (changed_by before first) (running files (unwatched job))) last
      (log-keeps (Spares path) (Some debugging) (trace_of files job) ((λ byte. apart), tt))
      ∙ files-after path (changed_by before first) before (running files (unwatched job))
      (spared path before first (apart, tt))

  -- beneath a root that the log lies outside of
  pub same-root : (root : Option (List ℕ)) → IfSome root (λ r. (path : List ℕ) → is_in r path ≡ true → bytes_eq path debugging.task.log ≡ false)
      → option_map (below root) shown.files ≡ option_map (below root) done.files
  same-root = grind (arith, parts-same, same-files)

-- all but the log is that of an outcome
abbrev GivesButLog : RunTask → DebugTask → Outcome → World → World → ℕ → Type 0
GivesButLog run debug o before now answer = GivesOutcome o before run.root (λ path. bytes_eq path debug.log ≡ false) now answer

-- what is done under the debugger is the outcome without it, but for the log
but-log : (files : Option Nodes) (run : RunTask) (debug : DebugTask) (found other : Result Work Refusal) (one : ComeToOneRun found other)
    → one.debugging.task ≡ debug → IfSome run.root (λ r. (path : List ℕ) → is_in r path ≡ true → bytes_eq path debug.log ≡ false) → (before : World)
    → GivesButLog run debug (outcome_of files other) before (changed_by before (outcome_of files found).changes) (outcome_of files found).status
but-log files run debug found other one asked outside before = rw (one.debugs, one.plays, ← asked) (record {
  status = refl;
  out = (same-outputs files before one.job one.debugging).0;
  err = (same-outputs files before one.job one.debugging).1;
  files = same-files files before one.job one.debugging;
  part = same-root files before one.job one.debugging run.root (rw (← asked) at outside);
})

-- words that come to some work ask for a task
asked-task : (nodes : Nodes) (requested : Result Task Refusal) (work : Work) → tree_verdict nodes requested ≡ Ok work
    → (task : Task) × (requested ≡ Ok task)
asked-task nodes (Ok task) work e = (task, refl)
asked-task nodes (Err refusal) work e = absurd cc

pub shows_what_play_does : (nodes : Nodes) (words others : List (List ℕ)) (work : Work) (items : HaveSameItems words others)
    → tree_verdict nodes (request words) ≡ Ok work
    → ShowsWhatPlayDoes nodes words others items work
shows_what_play_does nodes words others work items e =
    let found = asked-task nodes (request words) work e in
    let both = requests-both words others items.run items.debug found.0 items.debugs items.plays found.1 in
    let one = plays-too nodes items.run items.debug work (ap (tree_verdict nodes) (sym both.debugs) ∙ e) in
    let plays = ap (tree_verdict nodes) both.plays ∙ one.0.plays in
    let run : ComeToOneRun (Ok work) (tree_verdict nodes (request others)) =
    record { job = one.0.job; debugging = one.0.debugging; debugs = one.0.debugs; plays = plays } in
    record { run = run; given = but-log (Some nodes) items.run items.debug _ _ run one.1 (log-outside items.run items.debug both.apart) }

-- so does the call
pub call-shows : (c : Call) → ComesOut c → (nodes : Nodes) → c.before.world.files ≡ Some nodes
    → (others : List (List ℕ)) (work : Work) (items : HaveSameItems c.words others) → tree_verdict nodes (request c.words) ≡ Ok work
    → IsEarly c.status
    ⊎ GivesButLog items.run items.debug (outcome_of (Some nodes) (tree_verdict nodes (request others))) c.before.world c.now.world c.status
call-shows c comes nodes contents others work items e = elim (ends_known c comes nodes contents) [
  | inl has ↦ inr (
      let done = subst (λ v. HasOutcome (outcome_of (Some nodes) v) c.before.world c.now.world c.status) e
      (subst (λ files. HasOutcome (outcome_of files (tree_verdict nodes (request c.words))) c.before.world c.now.world c.status) contents has) in
      rw (done.world, done.status) ((shows_what_play_does nodes c.words others work items e).given c.before.world)
      )
  | inr early ↦ inl (early.stop, early.status)
]

-- ==== What a call sees of a tree, and what it leaves alone.

-- the outputs of work are made first, so what stood there does not count
work-outputs : (path : List ℕ) (files : Option Nodes) (found : Result Work Refusal) (m n : Option Node) → IsOutputOf found path
    → node_by path (outcome_of files found).changes m ≡ node_by path (outcome_of files found).changes n
work-outputs path files found m n among =
    rw (made-first files found) (made-by path (written_paths found) (later_changes files found) m n among)

-- an outcome depends on a tree by the view of the root alone
outcome-same : (nodes other : Nodes) (found : Result Work Refusal)
    → root_view_in (Some nodes) (root_of_work found) ≡ root_view_in (Some other) (root_of_work found)
    → outcome_of (Some nodes) found ≡ outcome_of (Some other) found
unfolding running
outcome-same nodes other (Ok (Run job)) same = grind arith
outcome-same nodes other (Ok (Write texts)) same = refl
outcome-same nodes other (Ok (Print text)) same = refl
outcome-same nodes other (Ok (RunLine job)) same = refl
outcome-same nodes other (Err refusal) same = refl

-- an outcome that was given over one tree is given over another that is the same beneath the root of its work
module _ (nodes other : Nodes) (found : Result Work Refusal)
    (same : root_view_in (Some nodes) (root_of_work found) ≡ root_view_in (Some other) (root_of_work found))
    (before now : World) (answer : ℕ) (contents : before.files ≡ Some nodes) (has : HasOutcome (outcome_of (Some nodes) found) before now answer)
  where
    abbrev over : World
    over = record before { files = Some other }

    abbrev changes : List Change
    changes = (outcome_of (Some other) found).changes

    made : now ≡ changed_by before changes
    made = has.world ∙ ap (λ o. changed_by before o.changes) (outcome-same nodes other found same)

    here : now.files ≡ Some (files_by nodes changes)
    here = ap (λ w. w.files) made ∙ files-contents before changes ∙ ap (option_map (λ n. files_by n changes)) contents

    there : (changed_by over changes).files ≡ Some (files_by other changes)
    there = files-contents over changes

    outcome-on : GivesOutcome (outcome_of (Some other) found) over (root_of_work found) (IsOutputOf found) now answer
    outcome-on =
        let outputs = outputs-after before over changes (refl, refl) in
        record {
          status = has.status ∙ ap (λ o. o.status) (outcome-same nodes other found same);
          out = ap (λ w. w.out) made ∙ outputs.0;
          err = ap (λ w. w.err) made ∙ outputs.1;
          part = rw (here, there) (ap Some (same-part (root_of_work found) nodes other changes (ap (λ (view : RootView). view.part) same)));
          files = λ path among. rw (here, there)
              (ap Some (node-by path nodes changes ∙ work-outputs path (Some other) found _ _ among ∙ sym (node-by path other changes)));
        }

-- what other calls give the same
module _ (c : Call) (comes : ComesOut c) where
  -- another tree that looks the same gives the same
  gives-as-on : (nodes : Nodes) → c.before.world.files ≡ Some nodes → (other : Nodes) → LookSame (call_request c) nodes other
      → GivesAsOn (call_request c) nodes other c.before.world c.now.world c.status
  gives-as-on nodes contents other same =
      let verdict = same-answer nodes other (inquiry_of (call_request c)) same.asked in
      record {
        verdict = verdict;
        given = elim (ends_known c comes nodes contents) [
          | inl has ↦
              let found = tree_verdict nodes (call_request c) in
              let here = subst (λ files. HasOutcome (outcome_of files found) c.before.world c.now.world c.status) contents has in
              inr (subst (λ v. GivesOutcome (outcome_of (Some other) v) (record c.before.world { files = Some other }) (root_of_work v)
              (IsOutputOf v) c.now.world c.status) verdict
              (outcome-on nodes other found same.root c.before.world c.now.world c.status contents here))
          | inr early ↦ inl (early.stop, early.status)
        ];
      }

  pub gives_the_same : GivesTheSame c
  gives_the_same = record {
    watched = where_known c.before.world.files _ (call-shows c comes);
    isolated = where_known c.before.world.files _ gives-as-on;
  }

-- ---- a refused source

module _ (path : List ℕ) (other : Nodes) (refusal : Refusal) (refused : answer_in other (source_of path) ≡ Err refusal) where
  plan-alone : (task : Task) → first_source task ≡ Some path → answer_in other (plan_of task) ≡ Err refusal
  unfolding run_plan_of
  plan-alone (tasks.Run run debug) first = answer-refused other (run_of run debug) _ refusal (run-refused path other refusal refused run debug first)
  plan-alone (tasks.Assemble task) first = answer-refused other (files_of task) _ refusal (files-refused path other refusal refused task first)
  plan-alone (tasks.Disassemble task) first = absurd cc
  plan-alone (tasks.Generate count) first = absurd cc
  plan-alone (tasks.Line file) first = absurd cc

pub alone : (task : Task) (path : List ℕ) (nodes other : Nodes) (refusal : Refusal) → first_source task ≡ Some path
    → answer_in nodes (source_of path) ≡ Err refusal
    → AgreeAlong nodes other (source_of path) → tree_verdict other (Ok task) ≡ Err refusal
unfolding work_of
alone task path nodes other refusal first is agree =
    answer-refused other (plan_of task) _ refusal
    (plan-alone path other refusal (sym (same-answer nodes other (source_of path) agree) ∙ is) task first)

-- What a runner answers for parts of a run, one after the other, whether they were done or stopped.
use Rattle.vector_loop.proofs.Common.{Answers, Bus, BusRepresents, Count, DeviceState, Err, FollowsFrom, HasTallyRoom, IsOutside, Ledger, List}
use Rattle.vector_loop.proofs.Common.{MadeOrCut, Models, Nodes, None, Ok, Option, Result, Runner, Running, SameBus, SameRunner, State, Stop}
use Rattle.vector_loop.proofs.Common.{Trace, ap, appended_to, arith, bus_faults, cond, contents_on, false, followed_by, ledger-same, ledger-then}
use Rattle.vector_loop.proofs.Common.{makes, none, result_blame, rules, running_state, stays, true, unless_over, ℕ, ◌+◌, ◌∙◌, ◌≡◌, ◌≤◌}
use Rattle.std.proofs.Common.{Bool, subst, ◌⊎◌}
use Rattle.std.specs.Prelude.{IfSome}
use Rattle.std.specs.Result.{result_and}
use Rattle.uxn_io_traits.specs.State.{TreeState}
use Rattle.uxn_io_traits.specs.Ended.{RefusesNone}
use Rattle.uxn_io_traits.specs.EndedLaws.{refuses-nothing, refuses-then}
use Rattle.varvara_bus.specs.Bus.{ChangesDevices, FilesStay, HasRoot, SameBorrowed, frames_begun}
use Rattle.vector_loop.specs.State.{is_over}
use Rattle.vector_loop.specs.Outputs.{IsOutput}
use Rattle.vector_loop.specs.Watch.{MayRefuse}
use Rattle.vector_loop.specs.Follows.{HasGrown}
use Rattle.vector_loop.specs.Answers.{ReachesResult, both_counts, running_of}
use Rattle.vector_loop.proofs.Along.{blame-same, follows-both, follows-nothing}
use Rattle.vector_loop.proofs.Stopping.{stopped-append, stopped-first, stopped-later}
use Rattle.vector_loop.proofs.Counting.{grown-both, grown-none, grown-within, room-left}
use Rattle.vector_loop.proofs.Makings.{no-memory, the-stop}
use Rattle.uxn_io_traits.specs.declared.trees.Tree as trees

-- where the run is over nothing more is done, and else all
over : (rest : State → Trace) (state : State) → is_over state ≡ true → unless_over rest state ≡ stays state
unfolding unless_over
over rest state is = ap (λ b. cond b (stays state) (rest state)) is

not-over : (rest : State → Trace) (state : State) → is_over state ≡ false → unless_over rest state ≡ rest state
unfolding unless_over
not-over rest state is = ap (λ b. cond b (stays state) (rest state)) is

-- an output that is there lies outside the root part
output-outside : (output : Option (List ℕ)) (root : Option (List ℕ)) (contents : Option Nodes) → IfSome output (IsOutput root contents)
    → IfSome output (IsOutside root)
output-outside = search (arith, rules)

-- what stays in one part of a run, and then in another
files-both : (root root_then : Option (List ℕ)) (a b c : Option Nodes) → root_then ≡ root → FilesStay root a b → FilesStay root_then b c
    → FilesStay root a c
files-both root root_then a b c same p q = search rules

-- memory runs out still where there was a root before
wanting-still : {T O E : Type 0} (refuses : Type 0) (before now : Bus T O E) → now.devices.now.root ≡ before.devices.now.root
    → refuses ⊎ HasRoot now.devices.now → refuses ⊎ HasRoot before.devices.now
wanting-still refuses before now same wanting = rw same at wanting

borrowed-both : {T O E : Type 0} (a b c : Bus T O E) → SameBorrowed a b → SameBorrowed b c → SameBorrowed a c
borrowed-both a b c p q = search rules

-- nor was a file refused without a root in either
refuses-both : (root root_then : Option (List ℕ)) (a b c : TreeState) → root_then ≡ root → (root ≡ None → RefusesNone a b)
    → (root_then ≡ None → RefusesNone b c) → root ≡ None → RefusesNone a c
refuses-both root root_then a b c same p q none = refuses-then a b c (p none) (q (same ∙ none))

module _ {T O E W : Type 0} (of_tree : trees.Ghosts T) where
  pub same-itself : (now : Runner T O E W) → SameRunner of_tree now now
  same-itself now = search (rules, refuses-nothing)

  pub same-both : (a b c : Runner T O E W) → SameRunner of_tree a b → SameRunner of_tree b c → SameRunner of_tree a c
  same-both a b c p q = search (rules, borrowed-both, files-both, refuses-both)

module _ {T O E W H : Type 0} (models : Models T O E W H) where
  pub reaches-where : {X : Type 0} (a b : Running T O E W) (part other : State → Trace) (r : Result X Stop)
      → ((devices : DeviceState) → BusRepresents (contents_on models.meaning.tree) a.bus devices
      → other (running_state a devices) ≡ part (running_state a devices))
      → ReachesResult models a b part r → ReachesResult models a b other r
  reaches-where a b part other (Ok x) same follows = record { from = λ devices stands. rw (same devices stands) (follows.from devices stands) }
  reaches-where a b part other (Err stop) same stopped = record {
    within = record { from = λ devices stands. rw (same devices stands) (stopped.within.from devices stands) };
    memory = stopped.memory;
  }

  pub reaches-then : {X : Type 0} (a b c : Running T O E W) (part rest : State → Trace) (r : Result X Stop)
      → b.bus.devices.now.root ≡ a.bus.devices.now.root → FollowsFrom models a b part
      → ReachesResult models b c rest r → ReachesResult models a c (λ s. followed_by (part s) rest) r
  reaches-then a b c part rest (Ok x) root one more = record {
    from = λ devices stands. follows-both models a b c (part (running_state a devices)) rest (one.from devices stands) more;
  }
  reaches-then a b c part rest (Err stop) root one more = record {
    within = record {
      from = λ devices stands. stopped-later models a b c stop (part (running_state a devices)) rest
          (one.from devices stands) more.within;
    };
    memory = λ wanted. wanting-still (MayRefuse models.may_refuse) a.bus b.bus root (more.memory wanted);
  }

  -- nothing is done
  pub answers-nothing : {X : Type 0} (now : Runner T O E W) (x : X) → Answers models now now stays none (Ok x)
  answers-nothing now x = search (arith, rules, follows-nothing, ledger-same, grown-none, same-itself)

  -- a part, and then another, whatever that answers
  pub answers-then : {X Y : Type 0} (a b c : Runner T O E W) (part rest : State → Trace) (m n : Count) (x : X) (r : Result Y Stop)
      → Answers models a b part m (Ok x) → Answers models b c rest n r → Answers models a c (λ s. followed_by (part s) rest) (both_counts m n) r
  answers-then a b c part rest m n x r p q = search (arith, rules, reaches-then, ledger-then, grown-both, same-both)

  -- another part is reached by another answer, for which the same one is to blame
  answers-but : {X Y : Type 0} (a b : Runner T O E W) (part other : State → Trace) (m : Count) (r : Result X Stop) (s : Result Y Stop)
      → ReachesResult models (running_of a) (running_of b) other s → result_blame s ≡ result_blame r → Answers models a b part m r
      → Answers models a b other m s
  answers-but a b part other m r s reaches blame p = search (rules, blame)

  -- a part that stopped, whatever would follow it
  pub answers-first : {X Y : Type 0} (a b : Runner T O E W) (part rest : State → Trace) (m : Count) (stop : Stop)
      → Answers models {X = X} a b part m (Err stop) → Answers models {X = Y} a b (λ s. followed_by (part s) rest) m (Err stop)
  answers-first {X = X} {Y = Y} a b part rest m stop p =
      answers-but {X = X} {Y = Y} a b part (λ s. followed_by (part s) rest) m (Err stop) (Err stop)
      (record {
        within = record {
          from = λ devices stands. stopped-first models (running_of a) (running_of b) stop (part (running_state (running_of a) devices)) rest
              (p.reaches.within.from devices stands);
        };
        memory = p.reaches.memory;
      })
      (blame-same Y X stop) p

  -- another value where it was done
  pub answers-and : {X Y : Type 0} (a b : Runner T O E W) (part : State → Trace) (m : Count) (r : Result X Stop) (y : Y)
      → Answers models a b part m r → Answers models a b part m (result_and r (Ok y))
  answers-and = search (arith, rules)

  -- the same under another name, in the states that the bus represented
  pub answers-where : {X : Type 0} (a b : Runner T O E W) (part other : State → Trace) (m : Count) (r : Result X Stop)
      → ((devices : DeviceState) → BusRepresents (contents_on models.meaning.tree) a.bus.now devices
      → other (running_state (running_of a) devices) ≡ part (running_state (running_of a) devices))
      → Answers models a b part m r → Answers models a b other m r
  answers-where a b part other m r same p = search (rules, answers-but, reaches-where)

  -- the same with the budget of a runner before
  pub answers-by : {X : Type 0} (a b : Runner T O E W) (part : ℕ → State → Trace) (m : Count) (r : Result X Stop) (budget : ℕ)
      → a.budget ≡ budget → Answers models a b (part a.budget) m r → Answers models a b (part budget) m r
  answers-by a b part m r budget same p = let P : ℕ → Type 0 = λ n. Answers models a b (part n) m r in subst P same p

  -- no more is counted than a larger count
  pub answers-within : {X : Type 0} (a b : Runner T O E W) (part : State → Trace) (m n : Count) (r : Result X Stop)
      → m.vectors ≤ n.vectors → m.events ≤ n.events → Answers models a b part m r → Answers models a b part n r
  answers-within a b part m n r p q d = search (arith, grown-within)

  -- where the run is over, and where it is not
  pub answers-over : {X : Type 0} (now : Runner T O E W) (rest : State → Trace) (m : Count) (x : X) (is : Bool)
      → ((devices : DeviceState) → BusRepresents (contents_on models.meaning.tree) now.bus.now devices
      → is ≡ is_over (running_state (running_of now) devices))
      → is ≡ true → Answers models now now (unless_over rest) m (Ok x)
  answers-over now rest m x is reads true_now = search (rules, arith, answers-within, answers-where, answers-nothing, over)

  pub answers-not_over : {X : Type 0} (a b : Runner T O E W) (rest : State → Trace) (m : Count) (r : Result X Stop) (is : Bool)
      → ((devices : DeviceState) → BusRepresents (contents_on models.meaning.tree) a.bus.now devices
      → is ≡ is_over (running_state (running_of a) devices))
      → is ≡ false → Answers models a b rest m r → Answers models a b (unless_over rest) m r
  answers-not_over a b rest m r is reads false_now p = search (rules, answers-where, not-over)

  -- what the devices represent and the tally change, and nothing else; no instruction is run
  pub answers-change : {X : Type 0} (a b : Runner T O E W) (prepare : State → State) (m : Count) (x : X)
      → record a { bus = b.bus; tally = b.tally } ≡ b → b.bus.ghost_name ≡ a.bus.ghost_name → ChangesDevices a.bus.now b.bus.now
      → frames_begun b.bus.now ≤ frames_begun a.bus.now + m.events → HasGrown a.tally b.tally m.vectors m.events a.budget
      → ((devices : DeviceState) → BusRepresents (contents_on models.meaning.tree) a.bus.now devices
      → BusRepresents (contents_on models.meaning.tree) b.bus.now (prepare (running_state (running_of a) devices)).devices)
      → ((devices : DeviceState) → BusRepresents (contents_on models.meaning.tree) a.bus.now devices
      → running_state (running_of b) (prepare (running_state (running_of a) devices)).devices ≡ prepare (running_state (running_of a) devices))
      → Answers models a b (λ s. stays (prepare s)) m (Ok x)
  answers-change = search (arith, rules)

  -- what the devices represent changes, and nothing else, and then a part is done
  pub answers-stored : {X : Type 0} (a b c : Runner T O E W) (change : DeviceState → DeviceState) (part : State → Trace) (m : Count)
      (r : Result X Stop) → record a { bus = b.bus; tally = b.tally } ≡ b → b.tally ≡ a.tally → b.bus.ghost_name ≡ a.bus.ghost_name
      → ChangesDevices a.bus.now b.bus.now → frames_begun b.bus.now ≡ frames_begun a.bus.now
      → ((devices : DeviceState) → BusRepresents (contents_on models.meaning.tree) a.bus.now devices
      → BusRepresents (contents_on models.meaning.tree) b.bus.now (change devices))
      → Answers models b c part m r → Answers models a c (λ s. part (record s { devices = change s.devices })) m r
  answers-stored a b c change part m r others_same tally bus others frames devices_now p =
      let prepare : State → State = λ s. record s { devices = change s.devices } in
      let first : Answers models a b (λ s. stays (prepare s)) none (Ok (tt {0}))
      = answers-change a b prepare none (tt {0}) others_same bus others (omega (arith, frames)) (rw tally (grown-none a.tally a.budget)) devices_now
      (λ devices stands. search (arith, rules)) in
      answers-within a c (λ s. part (record s { devices = change s.devices })) (both_counts none m) m r (omega arith) (omega arith)
      (answers-then a b c (λ s. stays (record s { devices = change s.devices })) part none m (tt {0}) r first p)

  -- changes that a run makes itself are a part of it
  reaches-made : (a b : Runner T O E W) (output : Option (List ℕ)) (bytes : DeviceState → List ℕ) (r : Result (Unit {0}) Stop)
      → IfSome output (IsOutside a.bus.now.devices.now.root) → b.core.now ≡ a.core.now → b.tally ≡ a.tally → b.watcher.now ≡ a.watcher.now
      → MadeOrCut models.meaning a.bus.now b.bus.now (λ s. appended_to output (bytes s)) r
      → ReachesResult models (running_of a) (running_of b) (λ s. makes (appended_to output (bytes s.devices)) s) r
  reaches-made = search (arith, rules, no-memory, stopped-append, the-stop)

  pub answers-made : (a b : Runner T O E W) (output : Option (List ℕ)) (bytes : DeviceState → List ℕ) (r : Result (Unit {0}) Stop)
      → IfSome output (IsOutput a.bus.now.devices.now.root ((contents_on models.meaning.tree) a.bus.now.tree.now)) → record a { bus = b.bus } ≡ b
      → b.bus.ghost_name ≡ a.bus.ghost_name
      → MadeOrCut models.meaning a.bus.now b.bus.now
      (λ s. appended_to output (bytes s)) r
      → Answers models a b (λ s. makes (appended_to output (bytes s.devices)) s) none r
  answers-made a b output bytes r there others_same bus made = search (arith, rules, reaches-made, output-outside, grown-none)

  -- what instructions answer, by what they leave of the bus
  pub answers-ran : {X : Type 0} (a b : Runner T O E W) (part : State → Trace) (m : Count) (r : Result X Stop)
      → b.core.ghost_name ≡ a.core.ghost_name → b.bus.ghost_name ≡ a.bus.ghost_name → b.watcher.ghost_name ≡ a.watcher.ghost_name
      → b.budget ≡ a.budget → ReachesResult models (running_of a) (running_of b) part r
      → Ledger (bus_faults models.meaning a.bus.now) (bus_faults models.meaning b.bus.now) (result_blame r)
      → HasGrown a.tally b.tally m.vectors m.events a.budget → SameBus models.meaning.tree a.bus.now b.bus.now
      → Answers models a b part m r
  answers-ran a b part m r core bus watcher budget reaches ledger grown same = search (arith, rules)

  -- what room is left after a part
  pub room-after : {X : Type 0} (a b : Runner T O E W) (part : State → Trace) (m n whole : Count) (r : Result X Stop)
      → m.vectors + n.vectors ≤ whole.vectors → m.events + n.events ≤ whole.events → HasTallyRoom a.tally a.budget whole
      → Answers models a b part m r → HasTallyRoom b.tally b.budget n
  room-after a b part m n whole r p q room answers = rw answers.same.budget (room-left a.tally b.tally m n whole a.budget p q room answers.grown)

  -- whatever the rest answers, the whole does
  abbrev pub Going : Runner T O E W → Runner T O E W → (State → Trace) → (State → Trace) → Count → Count → Type 0
  Going before now whole rest all left =
      (after : Runner T O E W) (answer : Result (Unit {0}) Stop) → Answers models now after rest left answer
      → Answers models before after whole all answer

  -- the first of the rest is done, or it stopped
  module _ (a b c : Runner T O E W) (whole : State → Trace) (part : ℕ → State → Trace) (later : State → Trace) (budget : ℕ) (all left m n : Count)
      (p : m.vectors + n.vectors ≤ left.vectors) (q : m.events + n.events ≤ left.events) (same : b.budget ≡ budget)
      (going : Going a b whole (λ s. followed_by (part budget s) later) all left) where
    pub going-on : (x : Unit {0}) → Answers models b c (part b.budget) m (Ok x) → Going a c whole later all n
    going-on x done = λ after answer answers.
        going after answer (answers-within b after (λ s. followed_by (part budget s) later) (both_counts m n) left answer p q
        (answers-then b c after (part budget) later m n x answer (answers-by b c part m (Ok x) budget same done) answers))

    pub going-stopped : (stop : Stop) → Answers models {X = Unit {0}} b c (part b.budget) m (Err stop)
        → Answers models {X = Unit {0}} a c whole all (Err stop)
    going-stopped stop stopped =
        going c (Err stop) (answers-within b c (λ s. followed_by (part budget s) later) m left (Err stop) (omega (arith, p)) (omega (arith, q))
        (answers-first b c (part budget) later m stop (answers-by b c part m (Err stop) budget same stopped)))

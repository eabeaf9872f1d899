-- The instructions of a vector, one after the other.
use Rattle.vector_loop.proofs.Common.{Bus, Core, Err, Instruction, Ledger, Models, NoMemory, Ok, Result, Running, State, Stop, Tally, Trace, ap}
use Rattle.vector_loop.proofs.Common.{arith, bus_faults, bus_rules, false, followed_by, inl, inr, instruction, ledger-same, ledger-then, rules, refl}
use Rattle.vector_loop.proofs.Common.{result_blame, running, running_state, same-again, stays, suc, sym, true, vector, ℕ, ◌+◌, ◌∙◌, ◌≡◌}
use Rattle.std.proofs.Common.{subst, zero}
use Rattle.std.proofs.lemmas.Bool.{cases_Bool}
use Rattle.std.specs.Prelude.{IfOk}
use Rattle.uxn_io_traits.specs.EndedLaws.{done-nothing}
use Rattle.uxn_io_traits.specs.Faults.{Nobody}
use Rattle.uxn_opcodes.specs.declared.Turn.TheVariants.{Broke as Broken, Ran}
use Rattle.uxn_opcodes.specs.Rule.{opcode_at}
use Rattle.varvara_bus.specs.Bus.{outside_on}
use Rattle.varvara_bus.specs.InstructionLaws.{instruction-borrowed, instruction-fault, same-itself}
use Rattle.vector_loop.specs.declared.tally.VectorEnd.{VectorEnd}
use Rattle.vector_loop.specs.declared.tally.VectorEnd.TheVariants.{Broke, Cut}
use Rattle.vector_loop.specs.State.{counting_cut, counting_instruction, counting_vector}
use Rattle.vector_loop.specs.Vector.{at_break, begun_at, breaks, ends_by, instructions}
use Rattle.vector_loop.specs.Budget.{budget_with_break, counting_run, ends-more}
use Rattle.vector_loop.specs.Watch.{MayRefuse}
use Rattle.vector_loop.specs.Stops.{StopsInFrom}
use Rattle.vector_loop.specs.Answers.{RanTo, ReachesResult}
use Rattle.vector_loop.specs.TraceLaws.{stays-after}
use Rattle.vector_loop.proofs.Traces.{is_not_zero, is_zero}
use Rattle.vector_loop.proofs.Along.{Watched, blame-same, follows-instruction, is-break, not-break, reached}
use Rattle.vector_loop.proofs.Stopping.{refused-instruction, stopped-instruction}
use Rattle.vector_loop.proofs.Answering.{reaches-then, reaches-where}

-- what is left of a vector where the next instruction is BRK, where it is not, and where nothing is left
record LeftIs (left : ℕ) (state : State) (part : State → Trace) (end : VectorEnd) : Type 0 where
  whole : instructions left state ≡ part state
  ends : ends_by left state ≡ end

left-break : (less : ℕ) (state : State) → at_break state ≡ true → LeftIs (suc less) state instruction Broke
unfolding instructions breaks
left-break = search (arith, rules)

left-next : (less : ℕ) (state : State) → at_break state ≡ false
    → LeftIs (suc less) state (λ s. followed_by (instruction s) (instructions less)) (ends_by less (instruction state).last)
unfolding instructions breaks
left-next = search (arith, rules)

left-none : (state : State) → LeftIs zero state (λ s. stays (record s { tally = counting_cut s.tally })) Cut
unfolding instructions breaks
left-none state = record { whole = refl; ends = refl }

-- it begins with an instruction
left-instruction : (less : ℕ) (state : State) → (later : State → Trace) × (instructions (suc less) state ≡ followed_by (instruction state) later)
left-instruction less state = elim (cases_Bool (at_break state)) [
  | inl at ↦ (stays, (left-break less state at).whole ∙ sym (stays-after (instruction state)))
  | inr on ↦ (instructions less, (left-next less state on).whole)
]

-- an instruction that ran before the others is counted with them
counted-more : (end : Result VectorEnd Stop) (number : ℕ) (tally : Tally)
    → counting_run end (budget_with_break end (suc number)) tally ≡ counting_run end (budget_with_break end number) (counting_instruction tally)
counted-more = search (arith, rules)

ok-then : {X : Type 0} (P Q : X → Type 0) (r : Result X Stop) → ((x : X) → P x → Q x) → IfOk r P → IfOk r Q
ok-then = search (arith, rules)

-- the machine, the bus and the watcher are these by now, and so many instructions more are counted
abbrev pub counted_to : {T O E W : Type 0} → Running T O E W → Core → Bus T O E → W → ℕ → Running T O E W
counted_to before core bus watcher count =
    running core bus (record before.tally { instructions = before.tally.instructions + count }) watcher

module _ {T O E W H : Type 0} (models : Models T O E W H) where
  module _ (here : Running T O E W) (left less : ℕ) (one : left ≡ suc less) where
    -- where the next instruction stops the vector does
    stops-first : (after : Running T O E W) (stop : Stop)
        → ((later : State → Trace) → StopsInFrom models here after stop (λ s. followed_by (instruction s) later))
        → StopsInFrom models here after stop (instructions (suc less))
    stops-first after stop stops = record {
      from = λ devices stands.
          let first = left-instruction less (running_state here devices) in rw first.1 ((stops first.0).from devices stands);
    }

    -- the watcher refused to be shown the machine before it
    pub ran-refused : (watcher_new : W) → models.may_refuse (models.held here.watcher) (models.held watcher_new)
        → RanTo models here here.core here.bus watcher_new left 0 (Err NoMemory)
    ran-refused watcher_new may =
        let none : here.tally.instructions + 0 ≡ here.tally.instructions = omega arith in
        let some : MayRefuse models.may_refuse = record { before = models.held here.watcher; now = models.held watcher_new; is = may } in
        rw one (record {
          whole = record { middle = here.core; between = here.bus; runs = (refl, refl); ends = (omega arith, inr (refl, (some, (refl, refl)))) };
          reaches = rw none (record {
            within = stops-first (running here.core here.bus here.tally watcher_new) NoMemory
                (λ later. refused-instruction models here watcher_new later may);
            memory = λ wanted. inl some;
          });
          ends = tt;
          ledger = ledger-same (bus_faults models.meaning here.bus);
          same = same-itself models.meaning.tree here.bus;
        })

    module _ (core_new : Core) (bus_new : Bus T O E) (watcher_new : W) where
      -- an instruction ran that is not BRK, and then the others
      ran-more : Watched models here watcher_new → Instruction (bus_rules models.meaning) here.core here.bus (Ok Ran) core_new bus_new
          → Ledger (bus_faults models.meaning here.bus) (bus_faults models.meaning bus_new) Nobody
          → (core : Core) (bus : Bus T O E) (watcher : W) (number : ℕ) (end : Result VectorEnd Stop)
          → RanTo models (running core_new bus_new (counting_instruction here.tally) watcher_new) core bus watcher less number end
          → RanTo models here core bus watcher left (suc number) end
      ran-more watched ran counted core bus watcher number end rest =
          let next = running core_new bus_new (counting_instruction here.tally) watcher_new in
          let last = running core bus (counting_run end (budget_with_break end number) next.tally) watcher in
          let follows = follows-instruction models here core_new bus_new watcher_new Ran watched ran in
          let same = instruction-borrowed models.meaning here.core core_new here.bus bus_new (Ok Ran) ran in
          let apart = is_not_zero (opcode_at here.core) (not-break models.meaning here.core core_new here.bus bus_new ran) in
          rw one (record {
            whole = record {
              middle = rest.whole.middle;
              between = rest.whole.between;
              runs = (core_new, (bus_new, (ran, rest.whole.runs)));
              ends = ends-more (bus_rules models.meaning) (MayRefuse models.may_refuse) end number less rest.whole.middle core rest.whole.between
                  bus rest.whole.ends;
            };
            reaches = rw (counted-more end number here.tally) (reaches-where models here last (λ s. followed_by (instruction s) (instructions less))
                (instructions (suc less)) end (λ devices stands. (left-next less (running_state here devices) apart).whole)
                (reaches-then models here next last instruction (instructions less) end same.root follows rest.reaches));
            ends = ok-then _ _ end (λ how at devices stands.
                let state = running_state here devices in
                let done = follows.from devices stands in
                at (instruction state).last.devices done.devices ∙ ap (ends_by less) (reached models here next (instruction state) done)
                ∙ sym (left-next less state apart).ends) rest.ends;
            ledger = ledger-then (bus_faults models.meaning here.bus) (bus_faults models.meaning bus_new) (bus_faults models.meaning bus)
                (result_blame end) counted rest.ledger;
            same = same-again models.meaning.tree here.bus bus_new bus same rest.same;
          })

      -- BRK ran
      pub ran-broke : Watched models here watcher_new → Instruction (bus_rules models.meaning) here.core here.bus (Ok Broken) core_new bus_new
          → Ledger (bus_faults models.meaning here.bus) (bus_faults models.meaning bus_new) Nobody
          → RanTo models here core_new bus_new watcher_new left 0 (Ok Broke)
      ran-broke watched ran counted =
          let next = running core_new bus_new (counting_instruction here.tally) watcher_new in
          let at = is_zero (opcode_at here.core) (is-break models.meaning here.core core_new here.bus bus_new ran) in
          rw one (record {
            whole = record { middle = here.core; between = here.bus; runs = (refl, refl); ends = (omega arith, ran) };
            reaches = reaches-where models here next instruction (instructions (suc less)) (Ok Broke)
                (λ devices stands. (left-break less (running_state here devices) at).whole)
                (follows-instruction models here core_new bus_new watcher_new Broken watched ran);
            ends = λ devices stands. sym (left-break less (running_state here devices) at).ends;
            ledger = counted;
            same = instruction-borrowed models.meaning here.core core_new here.bus bus_new (Ok Broken) ran;
          })

      -- it stopped
      pub ran-stopped : (X : Type 0) (stop : Stop) → Watched models here watcher_new
          → Instruction (bus_rules models.meaning) here.core here.bus (Err stop) core_new bus_new
          → Ledger (bus_faults models.meaning here.bus) (bus_faults models.meaning bus_new) (result_blame {T = X} (Err stop))
          → RanTo models here core_new bus_new watcher_new left 0 (Err stop)
      ran-stopped X stop watched stopped counted =
          let none : here.tally.instructions + 0 ≡ here.tally.instructions = omega arith in
          rw one (record {
            whole = record { middle = here.core; between = here.bus; runs = (refl, refl); ends = (omega arith, inl stopped) };
            reaches = rw none (record {
              within = stops-first (running core_new bus_new here.tally watcher_new) stop
                  (λ later. stopped-instruction models here core_new bus_new watcher_new stop later watched stopped);
              memory = λ wanted. inr (instruction-fault models.meaning here.core core_new here.bus bus_new stop stopped wanted);
            });
            ends = tt;
            ledger = rw (blame-same VectorEnd X stop) counted;
            same = instruction-borrowed models.meaning here.core core_new here.bus bus_new (Err stop) stopped;
          })

  -- as many ran as the budget allows
  pub ran-cut : (here : Running T O E W) → RanTo models here here.core here.bus here.watcher 0 0 (Ok Cut)
  ran-cut here =
      let none : here.tally.instructions + 0 ≡ here.tally.instructions = omega arith in
      record {
        whole = record { middle = here.core; between = here.bus; runs = (refl, refl); ends = (refl, (refl, refl)) };
        reaches = rw none (reaches-where models here (running here.core here.bus (counting_cut here.tally) here.watcher)
            (λ s. stays (record s { tally = counting_cut s.tally })) (instructions 0) (Ok Cut)
            (λ devices stands. (left-none (running_state here devices)).whole) (record {
              from = λ devices stands.
                  let made = done-nothing (outside_on models.meaning here.bus) in
                  record { core = refl; devices = stands; tally = refl; makes = made; changes = tt; watcher = refl };
            }));
        ends = λ devices stands. sym (left-none (running_state here devices)).ends;
        ledger = ledger-same (bus_faults models.meaning here.bus);
        same = same-itself models.meaning.tree here.bus;
      }

  -- so many instructions ran, and none was BRK: what comes of those that are left is what comes of all
  abbrev pub Along : Running T O E W → Core → Bus T O E → W → ℕ → ℕ → ℕ → Type 0
  Along before core bus watcher budget done left = (core_new : Core) (bus_new : Bus T O E) (watcher_new : W) (number : ℕ)
      (end : Result VectorEnd Stop) → RanTo models (counted_to before core bus watcher done) core_new bus_new watcher_new left number end
      → RanTo models before core_new bus_new watcher_new budget (done + number) end

  pub along-start : (before : Running T O E W) (budget done : ℕ) → done ≡ 0 → Along before before.core before.bus before.watcher budget done budget
  along-start = search (arith, rules)

  module _ (before : Running T O E W) (core : Core) (bus : Bus T O E) (watcher : W) (budget done left : ℕ)
      (along : Along before core bus watcher budget done left) where
    pub along-ran : (core_new : Core) (bus_new : Bus T O E) (watcher_new : W) (done_now less : ℕ) → done_now ≡ done + 1 → left ≡ suc less
        → Watched models (counted_to before core bus watcher done) watcher_new
        → Instruction (bus_rules models.meaning) core bus (Ok Ran) core_new bus_new
        → Ledger (bus_faults models.meaning bus) (bus_faults models.meaning bus_new) Nobody
        → Along before core_new bus_new watcher_new budget done_now less
    along-ran core_new bus_new watcher_new done_now less more one watched ran counted = λ core_end bus_end watcher_end number end rest.
        let P : ℕ → Type 0 = λ n. RanTo models (running core_new bus_new (record before.tally { instructions = n }) watcher_new)
        core_end bus_end watcher_end less number end in
        let Q : ℕ → Type 0 = λ n. RanTo models before core_end bus_end watcher_end budget n end in
        let here = counted_to before core bus watcher done in
        let counts : before.tally.instructions + done_now ≡ before.tally.instructions + done + 1 = omega (arith, more) in
        let all : done + suc number ≡ done_now + number = omega (arith, more) in
        subst Q all (along core_end bus_end watcher_end (suc number) end
        (ran-more here left less one core_new bus_new watcher_new watched ran counted core_end bus_end watcher_end number end (subst P counts rest)))

    pub along-end : (core_new : Core) (bus_new : Bus T O E) (watcher_new : W) (end : Result VectorEnd Stop)
        → RanTo models (counted_to before core bus watcher done) core_new bus_new watcher_new left 0 end
        → RanTo models before core_new bus_new watcher_new budget done end
    along-end = search (arith, rules)

  -- what begins at an address is a vector
  pub vector-reaches : {X : Type 0} (before now : Running T O E W) (budget other at : ℕ) (r : Result X Stop) → budget ≡ other
      → ReachesResult models (running (record before.core { at = at }) before.bus (counting_vector before.tally) before.watcher) now
      (instructions budget) r
      → ReachesResult models before now (vector other at) r
  unfolding vector
  vector-reaches before now budget other at r same more =
      let begun = running (record before.core { at = at }) before.bus (counting_vector before.tally) before.watcher in
      rw (← same) (reaches-then models before begun now (λ s. stays (begun_at at s)) (instructions budget) r refl (record {
        from = λ devices stands.
            let made = done-nothing (outside_on models.meaning before.bus) in
            record { core = refl; devices = stands; tally = refl; makes = made; changes = tt; watcher = refl };
      }) more)

-- Which parts of a run take the names of a folder.
use Rattle.std.specs.Prelude.{◌≡◌, List, ◌∷◌, ◌++◌}
use Rattle.std.proofs.Common.{ap, sym, ◌∙◌, append_assoc}
use Rattle.varvara_bus.specs.Folders.{InstructionTakesNames}
use Rattle.vector_loop.specs.State.{State}
use Rattle.vector_loop.specs.Trace.{Trace, followed_by}

-- one of its instructions does
pub record TraceTakesNames (trace : Trace) : Type 0 where
  pub before : List State
  pub moment : State
  pub after : List State
  pub in_order : trace.moments ≡ before ++ moment ∷ after
  pub takes : InstructionTakesNames moment.devices moment.core

-- so do a part and what follows it, where the one or the other does
pub names-first : (first : Trace) (rest : State → Trace) → TraceTakesNames first → TraceTakesNames (followed_by first rest)
names-first first rest takes = record {
  before = takes.before;
  moment = takes.moment;
  after = takes.after ++ (rest first.last).moments;
  in_order = ap (λ moments. moments ++ (rest first.last).moments) takes.in_order
      ∙ append_assoc takes.before (takes.moment ∷ takes.after) (rest first.last).moments;
  takes = takes.takes;
}

pub takes-later : (first : Trace) (rest : State → Trace) → TraceTakesNames (rest first.last) → TraceTakesNames (followed_by first rest)
takes-later first rest takes = record {
  before = first.moments ++ takes.before;
  moment = takes.moment;
  after = takes.after;
  in_order = ap (λ moments. first.moments ++ moments) takes.in_order
      ∙ sym (append_assoc first.moments takes.before (takes.moment ∷ takes.after));
  takes = takes.takes;
}

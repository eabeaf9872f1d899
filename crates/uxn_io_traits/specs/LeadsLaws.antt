-- Laws of the way that an inquiry has come.
use Rattle.std.specs.Prelude.{◌≡◌, Bool, true, false, Some, refl}
use Rattle.std.proofs.Common.{inl, inr, sym, ◌∙◌, ap, subst}
use Rattle.uxn_io_traits.specs.Ended.{TreeLooked}
use Rattle.uxn_io_traits.specs.EndedLaws.{looked-then, looked-nothing}
use Rattle.uxn_io_traits.specs.Files.{Nodes}
use Rattle.uxn_io_traits.specs.State.{TreeState}
use Rattle.uxn_io_traits.specs.Question.{Question, Reply, IsBegun}
use Rattle.uxn_io_traits.specs.Inquiry.{Inquiry, Answer, Ask, bind, answer_in}
use Rattle.uxn_io_traits.specs.Leads.{Here, Asked, Leads, StopsAt, StopsBy, Stops}
use Rattle.uxn_io_traits.specs.Along.{Always}

module _ {A : Type 0} (rest : Inquiry A) (now : TreeState) where
  -- further, and then further
  pub leads-then : (last : Inquiry A) (later : TreeState) (whole : Inquiry A) (before : TreeState) → Leads whole rest before now
      → Leads rest last now later → Leads whole last before later
  leads-then last later _ _ Here q = q
  leads-then last later _ _ (Asked question more reply before middle replied p) q =
      Asked question more reply before middle replied (leads-then last later (more reply) middle p q)

  -- what is asked behind an inquiry is asked behind its rest
  pub leads-bind : {B : Type 0} (next : A → Inquiry B) (whole : Inquiry A) (before : TreeState) → Leads whole rest before now
      → Leads (bind whole next) (bind rest next) before now
  leads-bind next _ _ Here = Here
  leads-bind next _ _ (Asked question more reply before middle replied p) =
      Asked question (λ given. bind (more given) next) reply before middle replied (leads-bind next (more reply) middle p)

  -- the tree was only looked at
  pub leads-looked : (whole : Inquiry A) (before : TreeState) → Leads whole rest before now → TreeLooked false before now
  leads-looked _ _ Here = looked-nothing now
  leads-looked _ _ (Asked question more reply before middle replied p) =
      looked-then false before middle now replied.looked (leads-looked (more reply) middle p)

  -- over known contents the rest is answered as the whole
  pub leads-known : (nodes : Nodes) (whole : Inquiry A) (before : TreeState) → before.contents ≡ Some nodes
      → Leads whole rest before now
      → answer_in nodes whole ≡ answer_in nodes rest
  leads-known nodes _ _ is Here = refl
  leads-known nodes _ _ is (Asked question more reply before middle replied p) =
      let known = rw is at replied.known in
      ap (λ given. answer_in nodes (more given)) (sym known)
      ∙ leads-known nodes (more reply) middle (replied.looked.contents ∙ is) p

  -- what always holds of the answer holds of each that it leads to
  pub leads-always : (P : A → Type 0) (whole : Inquiry A) (before : TreeState) → Always P whole → Leads whole rest before now
      → Always P rest
  leads-always P _ _ holds Here = holds
  leads-always P _ _ holds (Asked question more reply before middle replied p) =
      leads-always P (more reply) middle (holds reply replied.is) p

module _ {A : Type 0} (rest : Inquiry A) (a b : TreeState) where
  at-looked : (failed : Bool) (inquiry : Inquiry A) → StopsAt failed inquiry a b → TreeLooked failed a b
  at-looked failed (Answer value) stop = absurd stop
  at-looked failed (Ask question more) stop = stop.0

  by-looked : (failed : Bool) → StopsBy failed rest a b → TreeLooked failed a b
  by-looked true stop = at-looked true rest stop
  by-looked false (inl same) = subst (λ now. TreeLooked false a now) (sym same) (looked-nothing a)
  by-looked false (inr stop) = at-looked false rest stop

  at-bind : {B : Type 0} (next : A → Inquiry B) (failed : Bool) (inquiry : Inquiry A) → StopsAt failed inquiry a b
      → StopsAt failed (bind inquiry next) a b
  at-bind next failed (Answer value) stop = absurd stop
  at-bind next failed (Ask question more) stop = stop

  by-bind : {B : Type 0} (next : A → Inquiry B) (failed : Bool) → StopsBy failed rest a b → StopsBy failed (bind rest next) a b
  by-bind next true stop = at-bind next true rest stop
  by-bind next false (inl same) = inl same
  by-bind next false (inr stop) = inr (at-bind next false rest stop)

module _ {A : Type 0} (failed : Bool) (inquiry : Inquiry A) (a b : TreeState) where
  pub stops-looked : Stops failed inquiry a b → TreeLooked failed a b
  stops-looked p = looked-then failed a p.middle b (leads-looked p.rest p.middle inquiry a p.leads)
      (by-looked p.rest p.middle b failed p.stop)

  -- an inquiry that stops ends all that was to be asked behind it
  pub stops-bind : {B : Type 0} (next : A → Inquiry B) → Stops failed inquiry a b → Stops failed (bind inquiry next) a b
  stops-bind next p = record {
    rest = bind p.rest next;
    middle = p.middle;
    leads = leads-bind p.rest p.middle next inquiry a p.leads;
    stop = by-bind p.rest p.middle b next failed p.stop;
  }

  -- or it stops further on
  pub stops-then : (whole : Inquiry A) (before : TreeState) → Leads whole inquiry before a → Stops failed inquiry a b
      → Stops failed whole before b
  stops-then whole before p q = record {
    rest = q.rest;
    middle = q.middle;
    leads = leads-then inquiry a q.rest q.middle whole before p q.leads;
    stop = q.stop;
  }

-- memory ran out, and nothing was asked
pub stops-here : {A : Type 0} (inquiry : Inquiry A) (now : TreeState) → Stops false inquiry now now
stops-here inquiry now = record { rest = inquiry; middle = now; leads = Here; stop = inl refl }

-- it stopped at the first question
pub stops-first : {A : Type 0} (failed : Bool) (question : Question) (more : Reply question → Inquiry A) (a b : TreeState)
    → TreeLooked failed a b
    → IsBegun question a b → Stops failed (Ask question more) a b
stops-first true question more a b looked begun =
    record { rest = Ask question more; middle = a; leads = Here; stop = (looked, begun) }
stops-first false question more a b looked begun =
    record { rest = Ask question more; middle = a; leads = Here; stop = inr (looked, begun) }

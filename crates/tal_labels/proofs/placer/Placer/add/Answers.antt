use Rattle.tal_labels.proofs.Common.{◌≡◌, ℕ, List, [], ◌∷◌, ◌++◌, true, false, Some, None, refl, sym, ◌∙◌, ap, is_some, Expanded, Placer, added_fault}
use Rattle.tal_labels.proofs.Common.{word_added, WereAdded}
use Rattle.tal_labels.proofs.IndexLemmas.{none_since}
use Rattle.tal_labels.proofs.AddingLemmas.{added-prefix, added-still, added-faulty}
use Rattle.tal_labels.proofs.placer.Placer.add.Goals as goal

nothing_given : (source : List ℕ) (words : List Expanded) (word : Expanded) → is_some (added_fault source (words ++ word ∷ [])) ≡ true → None ≡ word_added source words word
nothing_given source words word e = rw e refl

faulty_added : (source : List ℕ) (words : List Expanded) (placer : Placer) → placer.is_faulty ≡ true → is_some (added_fault source words) ≡ true → WereAdded source words placer
faulty_added source words placer e h = record {
  faulty = e ∙ sym h;
  kept = λ none. (let never : true ≡ false = sym h ∙ ap is_some none in cc);
}

pub returns-then-self-clause-value : goal.returns-then-self-clause-value
returns-then-self-clause-value c words few so = nothing_given _ words _ (added-prefix _ words _ (sym so.faulty ∙ c.if-self.true))

pub returns-then-self-clause-added : goal.returns-then-self-clause-added
returns-then-self-clause-added c words few so = faulty_added _ _ _ c.if-self.true (added-prefix _ words _ (sym so.faulty ∙ c.if-self.true))

pub returns-in-Ok-clause-value : goal.returns-in-Ok-clause-value
returns-in-Ok-clause-value c words few so =
    let sound = none_since _ (sym so.faulty ∙ c.if-self.false) in
    let placed = c.in-Ok.ensures.value words few (so.kept sound) in
    rw (added-still _ words _ sound placed.0, placed.1) (ap Some placed.2)

pub returns-in-Ok-clause-added : goal.returns-in-Ok-clause-added
returns-in-Ok-clause-added c words few so =
    let sound = none_since _ (sym so.faulty ∙ c.if-self.false) in
    let placed = c.in-Ok.ensures.value words few (so.kept sound) in
    let still = added-still _ words _ sound placed.0 in
    record { faulty = c.in-Ok.ensures.flag ∙ c.if-self.false ∙ sym (ap is_some still); kept = λ _. placed.3 }

pub returns-in-Err-Refused-clause-value : goal.returns-in-Err-Refused-clause-value
returns-in-Err-Refused-clause-value c words few so =
    let sound = none_since _ (sym so.faulty ∙ c.if-self.false) in
    let value = rw c.in-Err-Refused.field-0-is at c.in-Err-Refused.ensures.value in
    nothing_given _ words _ (added-faulty _ words _ c.in-Err-Refused.field-0-0 sound (value words few (so.kept sound)))

pub returns-in-Err-Refused-clause-added : goal.returns-in-Err-Refused-clause-added
returns-in-Err-Refused-clause-added c words few so =
    let sound = none_since _ (sym so.faulty ∙ c.if-self.false) in
    let value = rw c.in-Err-Refused.field-0-is at c.in-Err-Refused.ensures.value in
    faulty_added _ _ _ refl (added-faulty _ words _ c.in-Err-Refused.field-0-0 sound (value words few (so.kept sound)))

pub returns-in-Err-NoMemory-clause-err : goal.returns-in-Err-NoMemory-clause-err
returns-in-Err-NoMemory-clause-err c words so = record {
  faulty = c.in-Err-NoMemory.ensures.flag ∙ so.faulty;
  kept = λ none. rw c.in-Err-NoMemory.ensures.err (so.kept none);
}

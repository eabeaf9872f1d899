use Rattle.tal_rom.proofs.Common.{◌≡◌, ◌++◌, ◌∷◌, [], cond, is_some, ap, sym, ◌∙◌, rules, err_from_is_err_and, known_address, known_in, None}
use Rattle.tal_rom.proofs.NameLemmas.{inserts, sets, known_same, wanted_same, wanted_more}
use Rattle.tal_rom.proofs.names.Names.refer.Goals as goal

pub returns-in_err-push-in-Some : goal.returns-in_err-push-in-Some
returns-in_err-push-in-Some c =
    let there = sym c.in-Some.ensures.value in
    let changes = sets _ _ _ _ _ (c.get_mut.follows.holds _).0 there in
    let stops = (err_from_is_err_and c.from_residual.result c.from_residual.ensures.1).1 in
    record {
      value = rw stops tt;
      known = λ other. known_same _ _ _ _ changes other (ap known_address c.in-Some.ensures.value);
      ok = rw stops tt;
      err = rw stops (λ other. wanted_same _ _ _ _ changes other (rw there c.in_err-push-in-Some.ensures.items));
    }

pub returns-after-is_none : goal.returns-after-is_none
returns-after-is_none c =
    let there = sym c.in-Some.ensures.value in
    let kept : c.if-is_none.named.address ≡ c.in-Some.named.now.address = search rules in
    let more = cond (is_some c.in-Some.named.now.address) [] (c.args.hole ∷ []) in
    let holes : c.if-is_none.named.holes.items ≡ c.in-Some.named.now.holes.items ++ more = search rules in
    let changes = sets _ _ _ _ _ (c.get_mut.follows.holds _).0 there in
    let known : known_in c.args.self.now c.args.name.items ≡ c.in-Some.named.now.address = rw (← c.as_slice.ensures.value) (ap known_address there) in
    record {
      value = kept ∙ sym known;
      known = λ other. known_same _ _ _ _ changes other (kept ∙ ap known_address c.in-Some.ensures.value);
      ok = λ other. rw (known, ← c.as_slice.ensures.value) (wanted_more _ _ _ _ changes other more (rw there holes));
      err = tt;
    }

pub returns-in_ok-insert-in-None : goal.returns-in_ok-insert-in-None
returns-in_ok-insert-in-None c =
    let changes = inserts _ _ c.args.name _ (rw c.get_mut.follows.holds-at-none at c.in_ok-insert-in-None.ensures.entries) in
    let unknown : None ≡ known_in c.args.self.now c.args.name.items = rw (← c.as_slice.ensures.value) (ap known_address c.in-None.ensures.value) in
    record {
      value = unknown;
      known = λ other. known_same _ _ _ _ changes other unknown;
      ok = λ other. rw (← unknown) (wanted_more _ _ _ _ changes other (c.args.hole ∷ [])
          (rw (← c.as_slice.ensures.value, ← c.in-None.ensures.value) c.in_ok-vec-in-None.ensures.items));
      err = tt;
    }

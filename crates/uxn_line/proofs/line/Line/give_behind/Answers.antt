use Rattle.uxn_line.proofs.Common.{◌≡◌, ℕ, List, Member, Some, slice_get, length, refl, sym, ◌∙◌, arith, add-one, slice_get_read, slice_get_within}
use Rattle.uxn_line.proofs.Feeding.{found-open, behind-waits, behind-gives}
use Rattle.uxn_line.proofs.line.Line.give_behind.Goals as goal

-- one member is in a place
some-once : (items : List Member) (i : ℕ) (a b : Member) → slice_get items i ≡ Some a → slice_get items i ≡ Some b → a ≡ b
some-once items i a b p q = let e : Some a ≡ Some b = sym p ∙ q in cc

pub index-requires : goal.index-requires
index-requires c = omega (arith, slice_get_within c.args.self.now.members.items _ _ c.requires.1.there)

pub index-requires-2 : goal.index-requires-2
index-requires-2 c = omega (arith, slice_get_within c.args.self.now.members.items _ _ c.requires.1.there)

pub index_mut-requires : goal.index_mut-requires
index_mut-requires c = omega (arith, slice_get_within c.args.self.now.members.items _ _ c.requires.1.there)

pub returns-then-must_wait : goal.returns-then-must_wait
returns-then-must_wait c =
    let line = c.args.self.now in
    let items = line.members.items in
    let found = found-open line _ c.index-2.result.now c.requires (rw (add-one c.args.before) at c.index-2.ensures) in
    let within = slice_get_within items _ c.index-2.result.now found.there in
    let is = c.must_wait.ensures.waits c.if-must_wait.true in
    behind-waits line c.args.before c.index.result.now c.index-2.result.now found
    (slice_get_read items (length items) c.args.before c.index.result.now refl (omega arith) c.index.ensures) is.0
    (sym c.is_over-none_comes.ensures.value ∙ is.1)

pub returns : goal.returns
returns c =
    let line = c.args.self.now in
    let items = line.members.items in
    let member = c.index_mut.result.now in
    let observed = found-open line _ c.index-2.result.now c.requires (rw (add-one c.args.before) at c.index-2.ensures) in
    let found = found-open line _ member c.requires (rw (add-one c.args.before) at c.index_mut.ensures.value) in
    let within = slice_get_within items _ member found.there in
    let same = some-once items _ c.index-2.result.now member observed.there found.there in
    rw (add-one c.args.before) (behind-gives line c.args.before c.index.result.now member c.give_next.new.self found
    (slice_get_read items (length items) c.args.before c.index.result.now refl (omega arith) c.index.ensures)
    (λ none. sym c.is_over-none_comes.ensures.value ∙ (rw same at c.must_wait.ensures.goes) c.if-must_wait.false none) c.give_next.ensures)

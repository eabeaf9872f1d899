use Rattle.std.proofs.Common.{◌≡◌, ℕ, ◌+◌, false, true, List, [], ◌∷◌, Some, Ok, Err, length, vec_len, ap, sym, ◌∙◌, arith, length-append}
use Rattle.std.specs.List.{All}
use Rattle.std.proofs.lemmas.List.Elements.{All-pop}
use Rattle.uxn_io.specs.declared.memory.trees.Node.{Node as StoredNode}
use Rattle.uxn_io_traits.specs.Changes.{can_create}
use Rattle.uxn_io.specs.InMemory.Places.{Places, place_of, nodes_of, IsFree}
use Rattle.uxn_io.specs.InMemory.Trees.{created, lacks_place}
use Rattle.uxn_io.proofs.InMemory.PlaceLemmas.{within_there, within_new}
use Rattle.uxn_io.proofs.InMemory.ChangeLemmas.{observed, clear_held, clear_created, make_held, make_created, zero_from, some_free}
use Rattle.uxn_io.proofs.memory.places.Places.create.Goals as goal
use Rattle.uxn_io.proofs.memory.places.Places.create.Goals.{In-Ok, In-Err, In-Some}

stands : (c : In-Ok) → Ok c.in-Ok.at ≡ place_of c.args.path.now c.self.inside.used.items
stands c = c.in-Ok.ensures.place ∙ ap (place_of c.args.path.now) c.deref.ensures.value

new : (c : In-Err) → Err c.in-Err.at ≡ place_of c.args.path.now c.self.inside.used.items
new c = c.in-Err.ensures.place ∙ ap (place_of c.args.path.now) c.deref.ensures.value

can_there : (c : In-Ok) → can_create (nodes_of c.self.inside.used.items) c.args.path.now ≡ true
can_there c = ap (λ (p : Places). can_create p.nodes c.args.path.now) c.self.view_is ∙ sym c.can_create.ensures ∙ c.if-not-can_create.false

can_make : (c : In-Err) → can_create (nodes_of c.self.inside.used.items) c.args.path.now ≡ true
can_make c = ap (λ (p : Places). can_create p.nodes c.args.path.now) c.self.view_is ∙ sym c.can_create.ensures ∙ c.if-not-can_create.false

some_node : List ℕ → List ℕ × StoredNode
some_node path = (path, record { folder = false; bytes = record { list = []; spare = 0 } })

pub clear_at-requires : goal.clear_at-requires
clear_at-requires c = omega (arith, within_there c.args.path.now c.self.inside.used.items c.in-Ok.at (stands (goal.at.clear_at-requires c).In-Ok), c.self.inside.used.ok.0)

pub invariant_of-self : goal.invariant_of-self
invariant_of-self c =
    let i = (goal.at.invariant_of-self c).In-Ok in
    rw (c.clear_at.ensures.items (some_node c.args.path.now), c.clear_at.ensures.capacity)
    (clear_held c.self.inside.used.items c.self.inside.free.items _ _ _ c.args.path.now c.in-Ok.at _ c.self.invariant (stands i) c.in-Ok.ensures.path (can_there i))

pub returns-in-Ok-clause-after : goal.returns-in-Ok-clause-after
returns-in-Ok-clause-after c =
    let i = (goal.at.returns-in-Ok-clause-after c).In-Ok in
    ap (λ held. observed held (vec_len c.self.inside.free) c.self.inside.room) (c.clear_at.ensures.items (some_node c.args.path.now))
    ∙ clear_created c.self.inside.used.items c.self.inside.free.items _ _ _ _ c.args.path.now c.in-Ok.at _ c.self.invariant (stands i) (can_there i)
    ∙ ap (λ (p : Places). created p c.args.path.now) c.self.view_is

pub insert_node-requires-clause-within : goal.insert_node-requires-clause-within
insert_node-requires-clause-within c = omega (arith, within_new c.args.path.now c.self.inside.used.items c.in-Err.at (new (goal.at.insert_node-requires-clause-within c).In-Err), c.self.inside.used.ok.0)

popped : (c : In-Some) → All (IsFree c.self.inside.room) c.pop.new.self.items × IsFree c.self.inside.room c.in-Some.bytes
popped c = All-pop (IsFree c.self.inside.room) c.self.inside.free.items c.pop.new.self.items (Some c.in-Some.bytes) c.in-Some.ensures.items c.self.invariant.spares

one_less : (c : In-Some) → length c.self.inside.free.items ≡ length c.pop.new.self.items + 1
one_less c = ap length c.in-Some.ensures.items ∙ length-append c.pop.new.self.items (c.in-Some.bytes ∷ [])

pub invariant_of-self-in-Some : goal.invariant_of-self-in-Some
invariant_of-self-in-Some c =
    let i = (goal.at.invariant_of-self-in-Some c).In-Err in
    let s = (goal.at.invariant_of-self-in-Some c).In-Some in
    rw c.insert_node.ensures.items
    (make_held c.self.inside.used.items c.self.inside.free.items c.pop.new.self.items _ _ _ _ _ c.args.path.now c.in-Err.at c.in-Some.bytes c.self.invariant (new i) c.in-Err.ensures.path (can_make i) (popped s).1.fits (popped s).0 (one_less s) (omega (arith, c.insert_node.ensures.capacity)) (omega (arith, c.in-Some.ensures.capacity)))

pub returns-in-Some-clause-after : goal.returns-in-Some-clause-after
returns-in-Some-clause-after c =
    let i = (goal.at.returns-in-Some-clause-after c).In-Err in
    let s = (goal.at.returns-in-Some-clause-after c).In-Some in
    ap (λ held. observed held (vec_len c.pop.new.self) c.self.inside.room) c.insert_node.ensures.items
    ∙ make_created c.self.inside.used.items (vec_len c.self.inside.free) (vec_len c.pop.new.self) c.self.inside.room c.args.path.now c.in-Err.at c.in-Some.bytes c.self.invariant.ordered (new i) (can_make i) (popped s).1.none (omega (arith, one_less s, c.self.inside.free.ok.0, c.pop.new.self.ok.0))
    ∙ ap (λ (p : Places). created p c.args.path.now) c.self.view_is

pub returns-in_default-clause-after : goal.returns-in_default-clause-after
returns-in_default-clause-after c =
    let i = (goal.at.returns-in_default-clause-after c).In-Err in
    absurd (some_free c.self.inside.used.items (vec_len c.self.inside.free) c.self.inside.room c.args.path.now c.in-Err.at c.self.invariant.ordered (new i) (can_make i) (ap (λ (p : Places). lacks_place p c.args.path.now) c.self.view_is ∙ c.requires) (zero_from _ c.in_default.ensures.variant.1))

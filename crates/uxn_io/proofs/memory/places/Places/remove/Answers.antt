use Rattle.std.proofs.lemmas.Grind.{common_steps}
use Rattle.std.proofs.Common.{◌≡◌, ℕ, true, List, [], ◌∷◌, ◌++◌, Ok, is_some, length, vec_len, refl, ap, sym, subst, ◌∙◌, arith, length-append}
use Rattle.std.proofs.lemmas.List.Elements.{All-push, All-get_or}
use Rattle.uxn_io.specs.declared.memory.trees.Node.{Node as StoredNode}
use Rattle.uxn_io_traits.specs.ByteList.{ByteList}
use Rattle.uxn_io_traits.specs.Files.{file_at}
use Rattle.uxn_io.specs.InMemory.Places.{Places, place_of, nodes_of, IsPlace, IsFree}
use Rattle.uxn_io.specs.InMemory.Trees.{removed}
use Rattle.uxn_io.proofs.InMemory.PlaceLemmas.{within_there}
use Rattle.uxn_io.proofs.InMemory.ChangeLemmas.{observed, take_held, take_removed, file_nowhere}
use Rattle.uxn_io.proofs.memory.places.Places.remove.Goals as goal
use Rattle.uxn_io.proofs.memory.places.Places.remove.Goals.{In-Ok}

stands : (c : In-Ok) → Ok c.in-Ok.at ≡ place_of c.args.path.now c.self.inside.used.items
stands c = c.in-Ok.ensures.place ∙ ap (place_of c.args.path.now) c.deref.ensures.value

file_there : (c : In-Ok) → is_some (file_at (nodes_of c.self.inside.used.items) c.args.path.now) ≡ true
file_there c = ap (λ (p : Places). is_some (file_at p.nodes c.args.path.now)) c.self.view_is ∙ sym c.is_file.ensures ∙ c.if-not-is_file.false

pub remove-node-requires : goal.remove-node-requires
remove-node-requires c = grind (arith, common_steps, stands, within_there)

pub push_free-requires : goal.push_free-requires
push_free-requires c = grind (arith, common_steps)

pub invariant_of-self : goal.invariant_of-self
invariant_of-self c =
    let i = (goal.at.invariant_of-self c).In-Ok in
    let P : List ℕ × StoredNode → Type 0 = λ held. IsPlace c.self.inside.room held in
    let place : IsPlace c.self.inside.room c.remove-node.result = subst P (sym c.remove-node.ensures.value) (All-get_or (IsPlace c.self.inside.room) c.self.inside.used.items c.in-Ok.at _ (within_there c.args.path.now c.self.inside.used.items c.in-Ok.at (stands i)) c.self.invariant.places) in
    let Q : ByteList → Type 0 = λ bytes. IsFree c.self.inside.room bytes in
    let free : IsFree c.self.inside.room c.clear.new.self = subst Q (sym c.clear.ensures) (record { none = refl; fits = omega (arith, place.fits) }) in
    rw c.push_free.ensures.items
    (rw c.remove-node.ensures.items
    (take_held c.self.inside.used.items c.self.inside.free.items (c.self.inside.free.items ++ c.clear.new.self ∷ []) _ _ _ _ _ c.args.path.now c.in-Ok.at c.self.invariant (stands i) (file_there i)
    (All-push (IsFree c.self.inside.room) c.self.inside.free.items c.clear.new.self c.self.invariant.spares free)
    (length-append c.self.inside.free.items (c.clear.new.self ∷ []))
    (omega (arith, c.remove-node.ensures.capacity)) c.push_free.ensures.capacity))

pub returns-in-Ok-clause-after : goal.returns-in-Ok-clause-after
returns-in-Ok-clause-after c =
    let i = (goal.at.returns-in-Ok-clause-after c).In-Ok in
    ap (λ held. observed held (vec_len c.push_free.new.free) c.self.inside.room) c.remove-node.ensures.items
    ∙ take_removed c.self.inside.used.items (vec_len c.self.inside.free) (vec_len c.push_free.new.free) c.self.inside.room c.args.path.now c.in-Ok.at c.self.invariant.ordered (stands i) (file_there i) (omega (arith, ap length c.push_free.ensures.items, length-append c.self.inside.free.items (c.clear.new.self ∷ []), c.self.inside.free.ok.0, c.push_free.new.free.ok.0))
    ∙ ap (λ (p : Places). removed p c.args.path.now) c.self.view_is

pub returns-in_default-clause-after : goal.returns-in_default-clause-after
returns-in_default-clause-after c = grind (arith, common_steps, file_nowhere, is_some)

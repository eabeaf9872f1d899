use Rattle.std.proofs.lemmas.Grind.{common_steps}
use Rattle.std.proofs.Common.{◌≡◌, ℕ, ◌-◌, ◌≤◌, take, List, [], Ok, IsSome, is_some, false, length, vec_len, vec_capacity, ap, sym, ◌∙◌, arith}
use Rattle.std.proofs.lemmas.List.{length-take-le}
use Rattle.uxn_io.specs.declared.memory.trees.Node.{Node as StoredNode}
use Rattle.uxn_io_traits.specs.Files.{file_at, file_bytes_at}
use Rattle.uxn_io.specs.InMemory.Places.{Places, place_of, nodes_of}
use Rattle.uxn_io.specs.InMemory.Trees.{appended, fitting}
use Rattle.uxn_io.proofs.InMemory.PlaceLemmas.{within_there}
use Rattle.uxn_io.proofs.InMemory.ChangeLemmas.{observed, append_held, append_appended, room_there, file_nowhere, within_room}
use Rattle.uxn_io.proofs.memory.places.Places.append.Goals as goal
use Rattle.uxn_io.proofs.memory.places.Places.append.Goals.{In-Ok}

stands : (c : In-Ok) → Ok c.in-Ok.at ≡ place_of c.args.path.now c.self.inside.used.items
stands c = c.in-Ok.ensures.place ∙ ap (place_of c.args.path.now) c.deref.ensures.value

file_there : (c : In-Ok) → IsSome (file_at (nodes_of c.self.inside.used.items) c.args.path.now)
file_there c = ap (λ (p : Places). is_some (file_at p.nodes c.args.path.now)) c.self.view_is ∙ c.requires

some_node : List ℕ → List ℕ × StoredNode
some_node path = (path, record { folder = false; bytes = record { list = []; spare = 0 } })

as_long : (c : In-Ok) → length c.bytes.result.now ≡ length (file_bytes_at (nodes_of c.self.inside.used.items) c.args.path.now)
as_long c = ap length (c.bytes.ensures ∙ sym (ap (λ (p : Places). file_bytes_at p.nodes c.args.path.now) c.self.view_is))

-- the count is what fits
fits : (c : In-Ok) → c.min-count.result ≡ fitting (observed c.self.inside.used.items (vec_len c.self.inside.free) c.self.inside.room) c.args.path.now c.args.piece.now
fits c = omega (arith, c.min-count.ensures, as_long c)

prefix : (c : In-Ok) → length (take c.min-count.result c.args.piece.now) ≤ c.self.inside.room - length (file_bytes_at (nodes_of c.self.inside.used.items) c.args.path.now)
prefix c = omega (arith, length-take-le c.min-count.result c.args.piece.now (omega (arith, c.min-count.ensures)), c.min-count.ensures, as_long c)

pub overflow_sub-self-inside : goal.overflow_sub-self-inside
overflow_sub-self-inside c =
    let long : length c.bytes.result.now ≡ length (file_bytes_at (nodes_of c.self.inside.used.items) c.args.path.now) = ap length (c.bytes.ensures ∙ sym (ap (λ (p : Places). file_bytes_at p.nodes c.args.path.now) c.self.view_is)) in
    omega (arith, long, within_room c.self.inside.used.items c.self.inside.free.items c.self.inside.room (vec_capacity c.self.inside.used) (vec_capacity c.self.inside.free) c.args.path.now c.self.invariant)

pub append_at-requires-clause-within : goal.append_at-requires-clause-within
append_at-requires-clause-within c = grind (arith, common_steps, stands, within_there)

pub append_at-requires-clause-room : goal.append_at-requires-clause-room
append_at-requires-clause-room c = λ d.
    let i = (goal.at.append_at-requires-clause-room c).In-Ok in
    omega (arith, prefix i, room_there c.self.inside.used.items c.self.inside.free.items c.self.inside.room (vec_capacity c.self.inside.used) (vec_capacity c.self.inside.free) c.args.path.now c.in-Ok.at d c.self.invariant (stands i) (file_there i))

pub invariant_of-self : goal.invariant_of-self
invariant_of-self c =
    let i = (goal.at.invariant_of-self c).In-Ok in
    rw (c.append_at.ensures.items (some_node c.args.path.now), c.append_at.ensures.capacity)
    (append_held c.self.inside.used.items c.self.inside.free.items _ _ _ c.args.path.now (take c.min-count.result c.args.piece.now) c.in-Ok.at _ c.self.invariant (stands i) c.in-Ok.ensures.path (file_there i) (prefix i))

pub returns-in-Ok-clause-after : goal.returns-in-Ok-clause-after
returns-in-Ok-clause-after c =
    let i = (goal.at.returns-in-Ok-clause-after c).In-Ok in
    ap (λ held. observed held (vec_len c.self.inside.free) c.self.inside.room) (c.append_at.ensures.items (some_node c.args.path.now))
    ∙ append_appended c.self.inside.used.items (vec_len c.self.inside.free) c.self.inside.room c.args.path.now c.args.piece.now c.min-count.result c.in-Ok.at _ c.self.invariant.ordered (stands i) (file_there i) (fits i) c.if-count-gt0.true
    ∙ ap (λ (p : Places). appended p c.args.path.now c.args.piece.now) c.self.view_is

pub returns-in_default-clause-after : goal.returns-in_default-clause-after
returns-in_default-clause-after c = grind (arith, common_steps, file_nowhere, is_some)

use Rattle.std.proofs.Common.{◌≡◌, Ok, Err, ap, arith, ◌∙◌, length, ◌<◌, vec_len}
use Rattle.std.proofs.Math.ListN.{length-set}
use Rattle.std.proofs.lemmas.List.Edits.{length-insert}
use Rattle.uxn_io.specs.InMemory.Places.{place_of}
use Rattle.uxn_io.proofs.InMemory.PlaceLemmas.{within_there, within_new}
use Rattle.uxn_io.proofs.InMemory.HeldLemmas.{set_nodes, set_ordered, set_places, insert_nodes, insert_ordered, insert_places}
use Rattle.uxn_io.proofs.memory.places.put.Goals as goal
use Rattle.uxn_io.proofs.memory.places.put.Goals.{In-Ok, In-Err}

stands : (c : In-Ok) → Ok c.in-Ok.at ≡ place_of c.args.path.now c.args.used.now.items
stands c = c.in-Ok.ensures.place ∙ ap (place_of c.args.path.now) c.deref.ensures.value

new : (c : In-Err) → Err c.in-Err.at ≡ place_of c.args.path.now c.args.used.now.items
new c = c.in-Err.ensures.place ∙ ap (place_of c.args.path.now) c.deref.ensures.value

within : (c : In-Ok) → c.in-Ok.at < vec_len c.args.used.now
within c = omega (arith, within_there c.args.path.now c.args.used.now.items c.in-Ok.at (stands c), c.args.used.now.ok.0)

pub set_node-requires : goal.set_node-requires
set_node-requires c = within (goal.at.set_node-requires c).In-Ok

pub insert_node-requires-clause-within : goal.insert_node-requires-clause-within
insert_node-requires-clause-within c = let i = (goal.at.insert_node-requires-clause-within c).In-Err in omega (arith, within_new c.args.path.now c.args.used.now.items i.in-Err.at (new i), c.args.used.now.ok.0)

pub returns-in-Ok : goal.returns-in-Ok
returns-in-Ok c =
    let is = stands (goal.at.returns-in-Ok c).In-Ok in
    let held = c.args.used.now.items in
    let changed = c.set_node.ensures.items (c.args.path.now, c.args.node) in
    let few = ap length changed ∙ length-set held c.in-Ok.at _ in
    rw changed record {
      nodes = set_nodes held c.args.path.now c.in-Ok.at _ c.args.node c.requires.ordered is;
      ordered = set_ordered held c.args.path.now c.in-Ok.at _ c.args.node c.requires.ordered is;
      used = λ room fits all. set_places room held c.args.path.now c.in-Ok.at _ c.args.node is fits all;
      capacity = c.set_node.ensures.capacity;
      few = omega (arith, few, c.set_node.new.used.ok.0, c.args.used.now.ok.0);
    }

pub returns-in-Err : goal.returns-in-Err
returns-in-Err c =
    let is = new (goal.at.returns-in-Err c).In-Err in
    let held = c.args.used.now.items in
    let few = ap length c.insert_node.ensures.items ∙ length-insert held c.in-Err.at _ (within_new c.args.path.now held c.in-Err.at is) in
    rw c.insert_node.ensures.items record {
      nodes = insert_nodes held c.args.path.now c.in-Err.at c.args.node c.requires.ordered is;
      ordered = insert_ordered held c.args.path.now c.in-Err.at c.args.node c.requires.ordered is;
      used = λ room fits all. insert_places room held c.args.path.now c.in-Err.at c.args.node c.in-Err.ensures.path fits all;
      capacity = c.insert_node.ensures.capacity;
      few = omega (arith, few, c.insert_node.new.used.ok.0, c.args.used.now.ok.0);
    }

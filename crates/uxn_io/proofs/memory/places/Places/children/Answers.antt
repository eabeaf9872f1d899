use Rattle.std.proofs.Common.{◌≡◌, ap, ◌∙◌}
use Rattle.std.specs.List.{filter_map}
use Rattle.uxn_io_traits.specs.Children.{children, entry_in}
use Rattle.uxn_io.specs.InMemory.Places.{Places, place_entry}
use Rattle.uxn_io.proofs.InMemory.ChildLemmas.{children_held, if_ok}
use Rattle.uxn_io.proofs.memory.places.Places.children.Goals as goal

pub returns-clause-children : goal.returns-clause-children
returns-clause-children c =
    let folder = c.args.folder.now in
    let whole = ap (filter_map (λ held. entry_in folder (place_entry held))) c.deref.ensures.value ∙ children_held c.self.inside.used.items folder c.self.invariant.ordered ∙ ap (λ (p : Places). children p.nodes folder) c.self.view_is in
    if_ok (λ entries. entries.items ≡ filter_map (λ held. entry_in folder (place_entry held)) c.deref.result.now) (λ entries. entries.items ≡ children c.args.self.now.nodes folder) c.children.result (λ entries is. is ∙ whole) c.children.ensures.children

use Rattle.std.proofs.Common.{◌≡◌, false, arith, subst, sym}
use Rattle.std.proofs.lemmas.Grind.{common_steps}
use Rattle.uxn_io.specs.InMemory.Trees.{TreeInMemory, is_listed_later}
use Rattle.uxn_io.proofs.InMemory.GuaranteedLemmas.{not_listed_now, not_listed_later}
use Rattle.uxn_io.proofs.memory.trees.MemTree.begin.Goals as goal

pub returns-then-fails-clause-guaranteed : goal.returns-then-fails-clause-guaranteed
returns-then-fails-clause-guaranteed c = λ none. let not_now = not_listed_now c.args.self.now c.args.call none in grind (arith, common_steps, not_now)

pub returns-then-fails-clause-later : goal.returns-then-fails-clause-later
returns-then-fails-clause-later c = λ none.
    let P : TreeInMemory → Type 0 = λ tree. is_listed_later tree ≡ false in
    not_listed_later c.self.inside.fails.items c.self.inside.calls c.count.new.self c.count.ensures.later (subst P (sym c.self.view_is) none)

pub returns-else-fails-clause-later : goal.returns-else-fails-clause-later
returns-else-fails-clause-later c = λ none.
    let P : TreeInMemory → Type 0 = λ tree. is_listed_later tree ≡ false in
    not_listed_later c.self.inside.fails.items c.self.inside.calls c.count.new.self c.count.ensures.later (subst P (sym c.self.view_is) none)

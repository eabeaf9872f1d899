use Rattle.std.proofs.Common.{true, false, sym, ◌∙◌}
use Rattle.std.specs.Prelude.{nat_eq}
use Rattle.std.specs.Cmp.Lexicographic.{pointwise}
use Rattle.uxn_io.proofs.InMemory.LookupLemmas.{first_at_all, first_at_more}
use Rattle.uxn_io.proofs.memory.places.lookup.Goals as goal

pub loop-entry-init : goal.loop-entry-init
loop-entry-init c = first_at_all _ _

pub returns-then-eq : goal.returns-then-eq
returns-then-eq c =
    let tested = sym c.if-eq.true ∙ c.eq.ensures ∙ (λ i. pointwise nat_eq (c.bytes.ensures.text i) (c.bytes-in-loop-entry.ensures.text i)) in
    sym (first_at_more c.args.path.now c.args.used.now c.loop-entry.entry-index c.entry-item.result true c.loop-entry-test.true c.entry-item.is tested)
    ∙ c.loop-entry.invariant

pub loop-entry-preserved : goal.loop-entry-preserved
loop-entry-preserved c =
    let tested = sym c.if-eq.false ∙ c.eq.ensures ∙ (λ i. pointwise nat_eq (c.bytes.ensures.text i) (c.bytes-in-loop-entry.ensures.text i)) in
    sym (first_at_more c.args.path.now c.args.used.now c.loop-entry.entry-index c.entry-item.result false c.loop-entry-test.true c.entry-item.is tested)
    ∙ c.loop-entry.invariant

use Rattle.tal_rom.proofs.Common.{[], refl, ◌∙◌, Label, with_label}
use Rattle.tal_rom.proofs.Holding.{holds_settled, settle_label, known_more, wanted_more}
use Rattle.tal_rom.proofs.patch.Patch.define.Goals as goal

pub returns-clause-ok : goal.returns-clause-ok
returns-clause-ok c model fresh so =
    let name = c.args.name.items in
    let label : Label = record { name = name; address = c.args.address } in
    let defined = c.in_ok-holes.ensures in
    let holes = c.deref.ensures.value ∙ defined.holes ∙ so.wanted name ∙ rw fresh refl in
    holds_settled c.args.address model (with_label label model) _ c.args.self.now c.fill_all.new.self c.define.new.self _
    (settle_label model.source model.labels label fresh [] model.words) (rw holes at c.fill_all.ensures) refl so
    (λ other. rw (defined.known other, so.known other) (known_more model.labels label other fresh))
    (λ other. rw (defined.wanted other, so.wanted other) (wanted_more model.source model.labels label fresh other _)) so.openers

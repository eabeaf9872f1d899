use Rattle.std.proofs.Common.{◌≡◌, ◌+◌, [], ◌∷◌, ◌++◌, take, ap, sym, ◌∙◌}
use Rattle.std.specs.Option.{option_copied}
use Rattle.std.proofs.lemmas.List.{take_more}
use Rattle.tal_words.specs.declared.name.Label.{Label}
use Rattle.tal_symbols.proofs.NearestLemmas.{passed_over, taken, kept}
use Rattle.tal_symbols.proofs.lookups.nearest.Goals as goal
use Rattle.tal_symbols.proofs.lookups.nearest.Goals.{then-label-address+then-lies_below, else-label-address}
use Rattle.tal_symbols.proofs.lookups.nearest.Goals.{else-label-address-via-then-label-address+else-lies_below}
use Rattle.tal_symbols.proofs.lookups.nearest.Goals.{else-label-address-via-else-label-address}

pub loop-label-preserved : goal.loop-label-preserved
loop-label-preserved c =
    let label = c.label-item.result in
    let labels = c.args.labels.now in
    let at = c.loop-label.label-index in
    let more : take (at + 1) labels ≡ take at labels ++ label ∷ [] =
    take_more labels at label c.loop-label-test.true ∙ ap (λ (l : Label). take at labels ++ l ∷ []) (sym c.label-item.is) in
    let known = option_copied c.loop-label.nearest in
    rw more (elim c.if-label-address.branch [
      | then-label-address+then-lies_below w ↦
          ap option_copied w.nearest-is ∙ taken (take at labels) label c.args.address known c.loop-label.invariant w.if-label-address.true (sym w.lies_below.ensures ∙ w.if-lies_below.true)
      | else-label-address w ↦ ap option_copied w.nearest-is ∙ elim w.else-label-address.branch [
        | else-label-address-via-then-label-address+else-lies_below v ↦
            kept (take at labels) label c.args.address known c.loop-label.invariant v.if-label-address.true (sym v.lies_below.ensures ∙ v.if-lies_below.false)
        | else-label-address-via-else-label-address v ↦ passed_over (take at labels) label c.args.address known c.loop-label.invariant v.if-label-address.false
      ]
    ])

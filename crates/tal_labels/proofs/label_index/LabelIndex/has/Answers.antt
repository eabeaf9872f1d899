use Rattle.tal_labels.proofs.Common.{◌≡◌, ap, ◌∙◌, length, ltb, list_any}
use Rattle.std.specs.List.{position_or_len}
use Rattle.std.specs.Str.{bytes_eq}
use Rattle.tal_labels.proofs.IndexLemmas.{position-names_of, within-any, is_named}
use Rattle.tal_labels.proofs.label_index.LabelIndex.has.Goals as goal

pub returns : goal.returns
returns c =
    let name = c.args.name.now in
    let labels = c.self.inside.labels.items in
    let place : c.position.result ≡ position_or_len (is_named name) labels =
    c.position.ensures ∙ ap (position_or_len (bytes_eq name)) c.self.invariant ∙ position-names_of name labels in
    let size : c.len.result ≡ length labels = c.len.ensures ∙ c.self.inside.labels.ok.0 in
    ap (λ p. ltb p c.len.result) place ∙ ap (ltb (position_or_len (is_named name) labels)) size ∙ within-any name labels
    ∙ ap (list_any (is_named name)) c.self.view_is

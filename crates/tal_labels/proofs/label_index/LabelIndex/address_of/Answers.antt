use Rattle.tal_labels.proofs.Common.{◌≡◌, ◌<◌, ap, ◌∙◌, arith, length, address_named}
use Rattle.std.specs.List.{position_or_len}
use Rattle.std.specs.Str.{bytes_eq}
use Rattle.tal_labels.proofs.IndexLemmas.{position-names_of, address-there, address-none, is_named}
use Rattle.tal_labels.proofs.label_index.LabelIndex.address_of.Goals as goal

pub returns-then-place-len : goal.returns-then-place-len
returns-then-place-len c =
    let name = c.args.name.now in
    let labels = c.self.inside.labels.items in
    let place : c.position-place.result ≡ position_or_len (is_named name) labels =
    c.position-place.ensures ∙ ap (position_or_len (bytes_eq name)) c.self.invariant ∙ position-names_of name labels in
    let inside : c.position-place.result < length labels = omega (arith, c.if-place-len.true, c.len.ensures, c.self.inside.labels.ok.0) in
    address-there name labels c.position-place.result c.index.result.now place inside c.index.ensures ∙ ap (λ all. address_named all name) c.self.view_is

pub returns : goal.returns
returns c =
    let name = c.args.name.now in
    let labels = c.self.inside.labels.items in
    let place : c.position-place.result ≡ position_or_len (is_named name) labels =
    c.position-place.ensures ∙ ap (position_or_len (bytes_eq name)) c.self.invariant ∙ position-names_of name labels in
    address-none name labels c.position-place.result place (omega (arith, c.if-place-len.false, c.len.ensures, c.self.inside.labels.ok.0))
    ∙ ap (λ all. address_named all name) c.self.view_is

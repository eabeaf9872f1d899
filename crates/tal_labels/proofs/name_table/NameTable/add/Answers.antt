use Rattle.tal_labels.proofs.Common.{◌≡◌, ap, ◌∙◌, ◌++◌, ◌∷◌, [], map}
use Rattle.std.proofs.Common.{rules}
use Rattle.tal_labels.specs.NameTables.{name_in}
use Rattle.tal_labels.proofs.TableLemmas.{stay-kept, stay-named, more-kept, more-named}
use Rattle.tal_labels.proofs.name_table.NameTable.add.Goals as goal

pub invariant_of-self-in_err-kept : goal.invariant_of-self-in_err-kept
invariant_of-self-in_err-kept c = rw c.reserve.ensures.items (stay-kept _ _ _ _ _ c.keep.ensures.grows c.self.invariant)

pub returns-in_err-kept-clause-err : goal.returns-in_err-kept-clause-err
returns-in_err-kept-clause-err c =
    let same : map (name_in c.keep.new.bytes.items) c.reserve.new.self.items ≡ c.args.self.now =
    rw c.reserve.ensures.items (stay-named _ _ _ _ _ c.keep.ensures.grows c.self.invariant ∙ c.self.view_is) in
    search (rules, same)

pub invariant_of-self-in_err-push : goal.invariant_of-self-in_err-push
invariant_of-self-in_err-push c =
    rw (c.reserve.ensures.items, c.in_err-push.ensures.err) (stay-kept _ _ _ _ _ c.keep.ensures.grows c.self.invariant)

pub returns-in_err-push-clause-err : goal.returns-in_err-push-clause-err
returns-in_err-push-clause-err c =
    let same : map (name_in c.keep.new.bytes.items) c.reserve.new.self.items ≡ c.args.self.now =
    rw c.reserve.ensures.items (stay-named _ _ _ _ _ c.keep.ensures.grows c.self.invariant ∙ c.self.view_is) in
    search (rules, same)

pub invariant_of-self-2 : goal.invariant_of-self-2
invariant_of-self-2 c =
    let more = c.in_ok-push.ensures.ok ∙ ap (λ hash. c.self.inside.chains.hashes.items ++ hash ∷ []) c.hash.ensures in
    rw (c.push_reserved.ensures.items, c.reserve.ensures.items)
    (more-kept c.self.inside.bytes.items c.keep.new.bytes.items c.self.inside.kept.items c.self.inside.chains.hashes.items c.push.new.self.hashes.items
    c.self.inside.scope c.args.name.now c.in_ok-kept.kept c.in_ok-kept.scope c.keep.ensures.grows c.in_ok-kept.ensures.ok more c.self.invariant)

pub returns-clause-ok : goal.returns-clause-ok
returns-clause-ok c =
    rw (c.push_reserved.ensures.items, c.reserve.ensures.items)
    (more-named c.self.inside.bytes.items c.keep.new.bytes.items c.self.inside.kept.items c.self.inside.chains.hashes.items c.self.inside.scope
    c.args.name.now c.in_ok-kept.kept c.in_ok-kept.scope c.keep.ensures.grows c.in_ok-kept.ensures.ok c.self.invariant
    ∙ ap (λ names. names ++ c.args.name.now ∷ []) c.self.view_is)

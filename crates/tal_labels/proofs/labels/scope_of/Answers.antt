use Rattle.tal_labels.proofs.Common.{arith, ap, sym, take, ◌∙◌, not, ◌==◌, eq-eqb, prefix_len_is, take_all}
use Rattle.tal_labels.proofs.labels.scope_of.Goals as goal

pub returns-then-byte-eq-SLASH : goal.returns-then-byte-eq-SLASH
returns-then-byte-eq-SLASH c = ap (λ n. take n c.args.name.now) (sym (prefix_len_is (λ byte. not (byte == 47)) c.args.name.now c.loop-length.length 0 (omega arith) c.loop-length.invariant (λ _. ap not (eq-eqb _ 47 c.if-byte-eq-SLASH.true))))

pub returns : goal.returns
returns c =
    let whole = prefix_len_is (λ byte. not (byte == 47)) c.args.name.now c.loop-length.length 0 (omega arith) c.loop-length.invariant (λ within. absurd (omega arith)) in
    sym (take_all c.loop-length.length c.args.name.now (omega arith)) ∙ ap (λ n. take n c.args.name.now) (sym whole)

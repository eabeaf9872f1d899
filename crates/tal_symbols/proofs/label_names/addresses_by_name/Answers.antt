use Rattle.std.proofs.Common.{◌≡◌, suc, arith, refl}
use Rattle.tal_symbols.proofs.TableLemmas.{none_named, put_named, all_named}
use Rattle.tal_symbols.proofs.label_names.addresses_by_name.Goals as goal

pub loop-less-init : goal.loop-less-init
loop-less-init c = record {
  addresses = none_named (λ key. key.now) c.args.labels.now c.in_ok-addresses.addresses.entries c.in_ok-addresses.ensures.empty;
  within = omega arith;
}

pub loop-less-preserved : goal.loop-less-preserved
loop-less-preserved c =
    let inv = c.loop-less.invariant in
    let next : c.loop-less.left ≡ suc c.in-Some.less = omega (arith, c.in-Some.ensures) in
    record {
      addresses = put_named (λ key. key.now) _ c.args.labels.now c.loop-less.addresses.entries _ _ c.in-Some.less c.loop-less.left c.index-labels-less.result
          (λ one other. refl) c.bytes.ensures next inv.within c.index-labels-less.is c.in_ok-insert.ensures.entries inv.addresses;
      within = omega (arith, next, inv.within);
    }

pub returns : goal.returns
returns c =
    all_named (λ key. key.now) c.args.labels.now c.loop-less.addresses.entries c.loop-less.left (omega (arith, c.in_default.ensures)) c.loop-less.invariant.addresses

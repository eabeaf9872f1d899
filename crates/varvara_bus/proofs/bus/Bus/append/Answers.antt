use Rattle.std.proofs.Common.{◌≡◌, Err, OnErr, is_err, rules, refl}
use Rattle.uxn_io_traits.specs.AppendingLaws.{appending-of-tree}
use Rattle.uxn_io_traits.specs.EndedLaws.{outside-of-tree}
use Rattle.uxn_opcodes.specs.declared.Stop.TheVariants.{TreeFault}
use Rattle.varvara_bus.specs.Bus.{contents_on}
use Rattle.varvara_bus.proofs.Appends.{append-ended, append-stands, append-stays}
use Rattle.varvara_bus.proofs.bus.Bus.append.Goals as goal

pub returns-clause-ended : goal.returns-clause-ended
returns-clause-ended g c =
    let fails : is_err c.or.result ≡ is_err c.append_all.result = search rules in
    let fault : OnErr c.or.result (c.or.result ≡ Err TreeFault) = search rules in
    append-ended _ c.or.result c.append_all.result _ _ fails fault
    (outside-of-tree _ _ _ _ (g.O.Sink.state c.args.self.now.out.now) (g.E.Sink.state c.args.self.now.err.now)
    (appending-of-tree c.args.path.now c.args.piece.now) c.append_all.ensures.ended)

pub returns-clause-stands : goal.returns-clause-stands
returns-clause-stands g c =
    let fails : is_err c.or.result ≡ is_err c.append_all.result = search rules in
    append-stands (contents_on g.T.Tree) c.args.self.now _ c.args.path.now c.args.piece.now c.or.result c.append_all.result _ _ fails refl refl refl
    c.append_all.ensures.ended c.requires

pub returns-clause-same : goal.returns-clause-same
returns-clause-same g c = record {
  borrowed = record { devices = refl; tree = refl; out = refl; err = refl };
  files = append-stays _ c.args.path.now c.args.piece.now _ _ _ c.append_all.ensures.ended;
  refusals = λ none. record { exact = c.append_all.ensures.ended.counted.promise; none = c.append_all.ensures.refused };
  frames = refl;
  clock = refl;
  root = refl;
}

use Rattle.std.proofs.Common.{arith, rules}
use Rattle.std.proofs.lemmas.List.{with_items_is}
use Rattle.uxn_io_traits.specs.FaultLaws.{counted-one, counted-same}
use Rattle.line_source.proofs.Reading.{emptied, refilled}
use Rattle.line_source.proofs.stream.InputStream.refill.Goals as goal

pub returns-in-Ok-clause-ok : goal.returns-in-Ok-clause-ok
returns-in-Ok-clause-ok g c = record {
  left = refilled _ _ _ _ c.read.new.buf c.in-Ok.count c.requires (with_items_is c.args.self.now.chunk c.read.new.buf (search (arith, rules))) c.in-Ok.ensures.bytes.0;
  counted = counted-same _;
}

pub returns-in-Err-clause-failed : goal.returns-in-Err-clause-failed
returns-in-Err-clause-failed g c =
    record { left = emptied _ _ _ c.requires c.in-Err.ensures.bytes; counted = search (arith, rules, counted-one) }

-- The bytes up to ffff, and then those from 0000 on.
use Rattle.std.proofs.Common.{◌∙◌, drop, sym, arith}
use Rattle.uxn_memory.specs.Bytes.{bank0}
use Rattle.uxn_memory.specs.Banks.{length-bank0}
use Rattle.file_ports.proofs.NameLemmas.{prefix_within, both_whole, bytes_around-parts}
use Rattle.file_ports.proofs.names.bytes_around.Goals as goal

pub overflow_cast-first : goal.overflow_cast-first
overflow_cast-first c = rw c.slice-first.ensures (omega (arith, prefix_within 256 (drop c.args.at (bank0 c.args.memory.now))))

pub overflow_sub-first : goal.overflow_sub-first
overflow_sub-first c = rw c.slice-first.ensures (prefix_within 256 (drop c.args.at (bank0 c.args.memory.now)))

pub both-requires : goal.both-requires
both-requires c = rw (c.slice.ensures, c.slice-first.ensures) (both_whole 256 (drop c.args.at (bank0 c.args.memory.now)) (bank0 c.args.memory.now)
    (omega (arith, length-bank0 c.args.memory.now)))

pub returns : goal.returns
returns c = c.both.ensures ∙ rw (c.slice.ensures, c.slice-first.ensures) (sym (bytes_around-parts c.args.memory.now c.args.at))

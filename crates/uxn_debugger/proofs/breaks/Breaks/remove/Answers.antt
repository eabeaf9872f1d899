use Rattle.std.proofs.Common.{◌≡◌, ◌<◌, ◌/◌, length, arith}
use Rattle.uxn_debugger.proofs.BitSets.{bit_cleared}
use Rattle.uxn_debugger.proofs.breaks.Breaks.remove.Goals as goal

pub returns : goal.returns
returns c =
    let place : c.from.result ≡ c.args.address / 64 = omega arith in
    let within : c.args.address / 64 < length c.args.self.now.bits = omega arith in
    rw place (bit_cleared c.args.self.now.bits c.args.address within)

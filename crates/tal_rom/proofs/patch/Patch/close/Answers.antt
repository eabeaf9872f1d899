use Rattle.tal_rom.proofs.Common.{None, Some, refl, arith, sym}
use Rattle.std.proofs.Math.Bool.{and-true}
use Rattle.tal_rom.proofs.Holding.{holds_end}
use Rattle.tal_rom.proofs.patch.Patch.close.Goals as goal

pub returns-in-Some : goal.returns-in-Some
returns-in-Some c model all so =
    holds_end c.args.address model c.pop.new.self (Some c.in-Some.hole) c.args.self.now _ all so c.in-Some.ensures.items (λ some. refl)
    c.fill_all.ensures

pub returns-in-None : goal.returns-in-None
returns-in-None c model all so =
    holds_end c.args.address model c.pop.new.self None c.args.self.now _ all so c.in-None.ensures.items
    (λ some. absurd (omega (arith, c.args.self.now.openers.ok.0, c.in-None.ensures.cases.0)))
    (record { memory = refl; fits = sym (and-true c.args.self.now.fits); waiting = omega arith; names = refl; openers = refl })

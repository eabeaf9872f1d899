use Rattle.tal_rom.proofs.Common.{◌≡◌, ◌+◌, true, refl, arith, sym}
use Rattle.std.proofs.Math.Bool.{and-true}
use Rattle.tal_rom.proofs.Holding.{holds_more, no_more, waiting_small}
use Rattle.tal_rom.proofs.patch.Patch.open.Goals as goal

pub returns-clause-ok : goal.returns-clause-ok
returns-clause-ok c model placed text opening next so =
    let small = waiting_small model placed _ text _ next c.args.self.now so in
    let raised : c.saturating_add-self.result ≡ c.args.self.now.waiting + 1 = omega (arith, small, c.saturating_add-self.ensures) in
    holds_more model placed _ text _ next true c.args.self.now _
    (record {
      memory = rw opening refl;
      waiting = rw opening raised;
      fits = rw opening (sym (and-true c.args.self.now.fits));
      known = λ name. refl;
      wanted = λ name. rw opening (no_more _ _);
      openers = c.in_ok-push.ensures.items;
    })
    so

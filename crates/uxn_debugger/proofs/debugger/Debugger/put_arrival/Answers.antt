use Rattle.std.proofs.Common.{refl, rules}
use Rattle.uxn_debugger.proofs.debugger.Debugger.put_arrival.Goals as goal

pub returns : goal.returns
returns c = record { ok = λ page. search (rules, c.in_default.not-FirstMoment, c.in_ok-put_place.ensures page); kept = (refl, refl) }

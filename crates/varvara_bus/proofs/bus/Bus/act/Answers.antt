use Rattle.std.proofs.Common.{refl}
use Rattle.varvara_bus.proofs.Acts.{core_done}
use Rattle.varvara_bus.proofs.bus.Bus.act.Goals as goal

pub returns-in-Stores-clause-acted : goal.returns-in-Stores-clause-acted
returns-in-Stores-clause-acted g c = rw c.in-Stores.is (core_done _ c.args.self.now c.args.core.now _ _ c.args.value refl (λ state stood. refl))

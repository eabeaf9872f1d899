use Rattle.std.proofs.Common.{refl}
use Rattle.varvara_bus.proofs.Acts.{wrote_by_act, stopped_by_act, byte_stored}
use Rattle.varvara_bus.proofs.bus.BusPorts.deo.Goals as goal

pub returns-clause-ok : goal.returns-clause-ok
returns-clause-ok g c =
    rw (← c.of.ensures) (wrote_by_act _ _ _ _ _ _ _ _ _ _
    (byte_stored _ c.args.self.now _ c.args.port c.args.value refl c.store.ensures.devices c.store.ensures.stands c.store.ensures.frames c.store.ensures.clock c.store.ensures.root)
    c.act.ensures.acted)

pub returns-clause-err : goal.returns-clause-err
returns-clause-err g c =
    rw (← c.of.ensures) (stopped_by_act _ _ _ _ _ _ _ _ _ _
    (byte_stored _ c.args.self.now _ c.args.port c.args.value refl c.store.ensures.devices c.store.ensures.stands c.store.ensures.frames c.store.ensures.clock c.store.ensures.root)
    c.act.ensures.acted)

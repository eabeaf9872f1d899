use Rattle.varvara_bus.proofs.devices.Devices.store_short.Goals as goal

pub returns-clause-stands : goal.returns-clause-stands
returns-clause-stands c state stands = c.store-2.ensures.stands _ (c.store.ensures.stands state stands)

use Rattle.screen_layers.specs.Pictures.{refreshed}
use Rattle.varvara_bus.proofs.Drawn.{drawn_on}
use Rattle.varvara_bus.proofs.screen.refresh.Goals as goal

pub returns-clause-stands : goal.returns-clause-stands
returns-clause-stands c state stands = drawn_on c.args.devices.now _ state (refreshed state.picture) _ _ stands (c.refresh.ensures.stands state.picture stands.screen)

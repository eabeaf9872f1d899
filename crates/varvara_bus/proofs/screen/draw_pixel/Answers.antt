use Rattle.varvara_bus.proofs.Drawn.{drawn_on}
use Rattle.varvara_bus.proofs.screen.draw_pixel.Goals as goal

pub returns-clause-stands : goal.returns-clause-stands
returns-clause-stands c state stands =
    rw (c.pixel-next_x.ensures.moved, c.stored_short-x.ensures state stands, c.stored_short-y.ensures state stands, c.stored-auto.ensures.stored state stands)
    at (c.store_short-2.ensures.stands _ (c.store_short.ensures.stands _
    (drawn_on c.args.devices.now _ state _ _ _ stands (c.pixel-next_x.ensures.drawn state.picture stands.screen))))

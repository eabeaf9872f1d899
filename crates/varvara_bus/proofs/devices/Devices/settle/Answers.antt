use Rattle.input_ports.specs.Page.{stores_after}
use Rattle.varvara_bus.specs.Laws.{page_size, stand-suited, stand-settled}
use Rattle.varvara_bus.proofs.devices.Devices.settle.Goals as goal

pub returns-clause-stands : goal.returns-clause-stands
returns-clause-stands c state stands =
    rw c.settle.ensures.page (stand-suited _ _ _ _ (stand-settled c.args.self.now state c.args.input.now (page_size _ _ (stores_after c.args.input.now) c.settle.ensures.page c.settle.ensures.size) stands))

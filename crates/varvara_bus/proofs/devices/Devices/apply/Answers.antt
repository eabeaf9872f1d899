use Rattle.std.proofs.Common.{slice_index}
use Rattle.input_ports.specs.Page.{stores_of}
use Rattle.varvara_bus.specs.Laws.{page_size, stand-suited, stand-applied}
use Rattle.varvara_bus.proofs.devices.Devices.apply.Goals as goal

pub returns-clause-stands : goal.returns-clause-stands
returns-clause-stands c state stands =
    rw c.apply.ensures.page (stand-suited _ _ _ _ (stand-applied c.args.self.now state c.args.input.now (page_size _ _ (stores_of (slice_index c.args.self.now.page) c.args.input.now) c.apply.ensures.page c.apply.ensures.size) stands))

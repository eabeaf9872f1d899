use Rattle.std.proofs.Common.{refl}
use Rattle.varvara_bus.specs.Laws.{first_page}
use Rattle.varvara_bus.proofs.page.new_page.Goals as goal

pub returns : goal.returns
returns c = first_page _ refl

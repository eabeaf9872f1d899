use Rattle.clock_port.proofs.Gregorian.{date_found}
use Rattle.clock_port.proofs.each_date_is_found.Goals as goal

pub returns : goal.returns
returns c = date_found

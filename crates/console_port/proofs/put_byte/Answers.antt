use Rattle.std.proofs.Common.{rules}
use Rattle.console_port.proofs.put_byte.Goals as goal

pub returns-in_err-put : goal.returns-in_err-put
returns-in_err-put g c = search rules

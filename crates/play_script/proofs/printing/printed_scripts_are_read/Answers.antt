use Rattle.play_script.proofs.RoundTrip.{printed_scripts}
use Rattle.play_script.proofs.printing.printed_scripts_are_read.Goals as goal

pub returns : goal.returns
returns c = printed_scripts

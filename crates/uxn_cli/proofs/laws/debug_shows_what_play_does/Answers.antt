use Rattle.uxn_cli.proofs.Clauses.{shows_what_play_does}
use Rattle.uxn_cli.proofs.laws.debug_shows_what_play_does.Goals as goal

pub returns : goal.returns
returns c = shows_what_play_does

use Rattle.std.proofs.lemmas.Grind.{common_steps}
use Rattle.std.proofs.Common.{◌∙◌, arith}
use Rattle.file_ports.proofs.SignLemmas.{fits-end, fits-less}
use Rattle.file_ports.proofs.signs.fits.Goals as goal
use Rattle.file_ports.proofs.signs.fits.Goals.{then-loop-rest-test+else-left-gt0, else-loop-rest-test}

pub returns : goal.returns
returns c = grind (arith, common_steps, else-loop-rest-test, fits-end, then-loop-rest-test+else-left-gt0)

pub loop-rest-preserved : goal.loop-rest-preserved
loop-rest-preserved c = fits-less c.loop-rest.rest c.loop-rest.left (omega arith) ∙ c.loop-rest.invariant

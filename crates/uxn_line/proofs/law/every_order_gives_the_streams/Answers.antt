use Rattle.uxn_line.proofs.Turning.{follows, ended-whole}
use Rattle.uxn_line.proofs.law.every_order_gives_the_streams.Goals as goal

pub returns : goal.returns
returns c = record {
  prefix = λ job line turned stands machine. (let run = follows job stands.job_is machine (turned machine) in (run.rest, run.prefix));
  whole = λ job line turned stands machine ended. (ended-whole job stands.job_is machine (turned machine) ended).0;
}

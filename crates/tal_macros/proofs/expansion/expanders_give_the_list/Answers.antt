use Rattle.tal_macros.proofs.Common.{[], parts_of}
use Rattle.tal_macros.proofs.GivenLemmas.{given-more, given-all, left-again}
use Rattle.tal_macros.proofs.StepLemmas.{visits_before_fault-prefix, visits_before_fault-all, validated-steps}
use Rattle.tal_macros.proofs.expansion.expanders_give_the_list.Goals as goal

pub returns : goal.returns
returns c = record {
  more = given-more;
  end = given-all;
  again = left-again;
  prefix = visits_before_fault-prefix;
  whole = visits_before_fault-all;
  validated = λ source. validated-steps source [] (parts_of source);
}

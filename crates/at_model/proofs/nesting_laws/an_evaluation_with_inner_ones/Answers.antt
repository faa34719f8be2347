use Rattle.at_model.proofs.of_nesting.Nesting.{evaluates_value, covered, only, takes, taken_known, led}
use Rattle.at_model.proofs.nesting_laws.an_evaluation_with_inner_ones.Goals as goal

pub returns : goal.returns
returns c = λ look equation forms known inner ground n i v ls us own p. record {
  value = evaluates_value look equation forms known inner ground n i v ls us own p;
  covers = covered look equation forms known inner ground n i v ls us own p;
  only = only look equation forms known inner ground n i v ls us own p;
  takes = takes look equation forms known inner ground n i v ls us own p;
  known_ones = taken_known look equation known inner n i v ls us p;
  led = led look equation forms known inner ground n i v ls us own p;
}

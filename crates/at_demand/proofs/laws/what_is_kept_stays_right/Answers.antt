use Rattle.at_demand.specs.Touched.{Touches}
use Rattle.at_demand.proofs.of_keeping.StayingRight.{kept_right}
use Rattle.at_demand.proofs.laws.what_is_kept_stays_right.Goals as goal

pub returns : goal.returns
returns c = λ rules old new e t idle ok accepted done before later. kept_right rules old new e t idle ok accepted done (Touches old e) (λ l m untouched. untouched m) before later

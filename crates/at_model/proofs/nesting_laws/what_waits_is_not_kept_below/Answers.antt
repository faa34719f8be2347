use Rattle.at_model.proofs.of_nesting.Nesting.{waits_apart}
use Rattle.at_model.proofs.nesting_laws.what_waits_is_not_kept_below.Goals as goal

pub returns : goal.returns
returns c = λ look forms i j k v w l h has. waits_apart look forms i j k v w l h has

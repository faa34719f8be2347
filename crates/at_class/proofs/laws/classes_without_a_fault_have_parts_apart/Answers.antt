use Rattle.at_model.specs.Declarations.{classes_of}
use Rattle.at_class.proofs.Acyclic.{hierarchy}
use Rattle.at_class.proofs.Apart.{parts_apart}
use Rattle.at_model.proofs.LedUp.{led}
use Rattle.at_class.proofs.Order.{none_broken}
use Rattle.at_class.proofs.laws.classes_without_a_fault_have_parts_apart.Goals as goal

pub returns : goal.returns
returns c ds sound none =
    let (circle, twice, classes) = none_broken ds none in
    parts_apart ds (led (classes_of ds) (hierarchy ds sound circle) sound.some) twice

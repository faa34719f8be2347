use Rattle.std.proofs.Common.{refl}
use Rattle.at_model.specs.Classes.{chain}
use Rattle.at_model.proofs.machine_cases.refused_edits.Goals as goal

pub returns-clause-index : goal.returns-clause-index
unfolding chain
returns-clause-index c = refl

pub returns-clause-fixed : goal.returns-clause-fixed
unfolding chain
returns-clause-fixed c = refl

pub returns-clause-fit : goal.returns-clause-fit
unfolding chain
returns-clause-fit c = refl

pub returns-clause-kind : goal.returns-clause-kind
unfolding chain
returns-clause-kind c = refl

pub returns-clause-component : goal.returns-clause-component
unfolding chain
returns-clause-component c = refl

pub returns-clause-last : goal.returns-clause-last
unfolding chain
returns-clause-last c = refl

pub returns-clause-class : goal.returns-clause-class
unfolding chain
returns-clause-class c = refl

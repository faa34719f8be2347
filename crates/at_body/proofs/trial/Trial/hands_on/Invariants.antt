use Rattle.at_model.specs.Classes.{Classes}
use Rattle.at_body.specs.Rest.{place_of}
use Rattle.at_body.proofs.HandedOn.{Comes}
use Rattle.at_body.proofs.trial.Trial.hands_on.Given as goal

abbrev pub invariant-loop-index : goal.invariant-loop-index
invariant-loop-index l = (classes : Classes) → Comes classes (place_of l.self) l.arguments l.index → Comes classes (place_of l.self) l.arguments 0

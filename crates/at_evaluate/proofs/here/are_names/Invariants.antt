use Rattle.std.specs.Prelude.{◌≡◌, length}
use Rattle.at_model.specs.Classes.{Classes}
use Rattle.at_body.proofs.HandedOn.{Comes}
use Rattle.at_body.specs.Standing.{Place}
use Rattle.at_evaluate.proofs.here.are_names.Given as goal

abbrev pub invariant-loop-index : goal.invariant-loop-index
invariant-loop-index l = (classes : Classes) (p : Place) → length p.bound ≡ l.bound → p.passed ≡ l.arguments → Comes classes p l.passed l.index → Comes classes p l.passed 0

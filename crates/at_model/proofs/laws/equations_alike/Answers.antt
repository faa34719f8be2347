use Rattle.std.proofs.Common.{nat_eq}
use Rattle.at_model.specs.Paths.{node_eq}
use Rattle.at_model.proofs.Nodes.{same_like, nat_eq-is, node_eq-is}
use Rattle.at_model.proofs.of_likeness.EquationsAlike.{evaluation-like, equations-like}
use Rattle.at_model.proofs.laws.equations_alike.Goals as goal

pub returns-clause-numbers : goal.returns-clause-numbers
returns-clause-numbers c = λ path injective rules. evaluation-like rules nat_eq node_eq (same_like nat_eq node_eq nat_eq-is node_eq-is path injective)

pub returns-clause-paths : goal.returns-clause-paths
returns-clause-paths c = equations-like

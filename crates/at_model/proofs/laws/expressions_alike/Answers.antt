use Rattle.std.proofs.Common.{nat_eq}
use Rattle.at_model.specs.Paths.{node_eq}
use Rattle.at_model.proofs.Nodes.{same_like, nat_eq-is, node_eq-is}
use Rattle.at_model.proofs.of_likeness.ExpressionsAlike.{eval-like}
use Rattle.at_model.proofs.laws.expressions_alike.Goals as goal

pub returns : goal.returns
returns c = λ path injective classes e numbers paths t. eval-like classes (same_like nat_eq node_eq nat_eq-is node_eq-is path injective) e numbers paths t

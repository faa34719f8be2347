use Rattle.std.proofs.Common.{nat_eq}
use Rattle.at_model.specs.Paths.{node_eq}
use Rattle.at_model.specs.Rules.{evaluation}
use Rattle.at_model.specs.Meaning.{content, equations}
use Rattle.at_model.proofs.Nodes.{same_like, nat_eq-is, node_eq-is}
use Rattle.at_model.proofs.of_likeness.EquationsAlike.{evaluation-like}
use Rattle.at_model.proofs.of_likeness.TriesAlike.{tried-like, reads-like}
use Rattle.at_model.proofs.of_likeness.CarryingCircles.{named_answer}
use Rattle.at_model.proofs.laws.numbers_for_paths.Goals as goal

pub returns-clause-tries : goal.returns-clause-tries
returns-clause-tries c = λ path injective rules t numbers alike known also k i j s.
    tried-like numbers (content t) known also alike k (evaluation-like rules nat_eq node_eq (same_like nat_eq node_eq nat_eq-is node_eq-is path injective) i j s)

pub returns-clause-reads : goal.returns-clause-reads
returns-clause-reads c = λ path injective rules t numbers alike known also k i j s.
    reads-like numbers (content t) known also alike k (evaluation-like rules nat_eq node_eq (same_like nat_eq node_eq nat_eq-is node_eq-is path injective) i j s)

pub returns-clause-answers : goal.returns-clause-answers
returns-clause-answers c = λ path injective rules t numbers alike i j a s h.
    named_answer path injective numbers (content t) (evaluation rules nat_eq) (equations rules) (evaluation-like rules
    nat_eq node_eq (same_like nat_eq node_eq nat_eq-is node_eq-is path injective)) i j a s (λ l u. alike l) h

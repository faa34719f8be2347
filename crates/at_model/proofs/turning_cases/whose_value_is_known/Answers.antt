use Rattle.std.proofs.Common.{pos, inl, inr, refl}
use Rattle.std.proofs.lemmas.Option.{none-some}
use Rattle.at_model.specs.Classes.{chain}
use Rattle.at_model.specs.Paths.{node_eq}
use Rattle.at_model.specs.Run.{Int}
use Rattle.at_model.specs.Samples.{left_of, of_node, right_of}
use Rattle.at_model.proofs.Apart.{apart}
use Rattle.at_model.proofs.turning_cases.whose_value_is_known.Goals as goal

pub returns-clause-kept : goal.returns-clause-kept
unfolding chain
returns-clause-kept c = inl (Int (pos 2), refl)

pub returns-clause-found : goal.returns-clause-found
returns-clause-found c = inr (inr (inl refl))

pub returns-clause-other : goal.returns-clause-other
returns-clause-other c = λ known. elim known [
  | inl kept ↦ none-some kept.0 kept.1
  | inr (inl e) ↦ apart (λ i. node_eq i.node (right_of 1)) (of_node (right_of 1) 5) (of_node (left_of 1) 5) refl refl e
  | inr (inr none) ↦ none
]

pub returns-clause-none : goal.returns-clause-none
returns-clause-none c = λ known. elim known [ inl kept ↦ none-some kept.0 kept.1 | inr h ↦ h ]

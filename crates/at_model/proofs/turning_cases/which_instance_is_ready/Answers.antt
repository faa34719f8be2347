use Rattle.std.proofs.Common.{pos, inl, inr, refl, sym}
use Rattle.std.proofs.lemmas.Option.{none-some}
use Rattle.at_model.specs.Classes.{chain}
use Rattle.at_model.specs.Paths.{node_eq}
use Rattle.at_model.specs.Run.{Int}
use Rattle.at_model.specs.Samples.{left_of, of_node, right_of}
use Rattle.at_model.proofs.Apart.{apart}
use Rattle.at_model.proofs.turning_cases.which_instance_is_ready.Goals as goal

pub returns-clause-both : goal.returns-clause-both
unfolding chain
returns-clause-both c = inr (λ j comes. elim comes [
  | inl left ↦ inr (inl (sym left))
  | inr behind ↦ elim behind.2 [ inl right ↦ inr (inr (inl (sym right))) | inr rest ↦ absurd rest.2 ]
])

-- the sum comes to its right side once its left one has its value
pub returns-clause-one : goal.returns-clause-one
unfolding chain
returns-clause-one c = λ ready. elim ready [
  | inl kept ↦ none-some (Int (pos 3)) kept
  | inr known ↦ elim (known (of_node (right_of 1) 5) (inr (Int (pos 1), (9, refl), inl refl))) [
    | inl kept ↦ none-some kept.0 kept.1
    | inr (inl e) ↦ apart (λ i. node_eq i.node (right_of 1)) (of_node (right_of 1) 5) (of_node (left_of 1) 5) refl refl e
    | inr (inr none) ↦ none
  ]
]

pub returns-clause-kept : goal.returns-clause-kept
returns-clause-kept c = inl refl

pub returns-clause-number : goal.returns-clause-number
unfolding chain
returns-clause-number c = inr (λ j comes. absurd comes)

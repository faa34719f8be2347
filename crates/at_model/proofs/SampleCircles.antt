-- The circles of the samples.
use Rattle.std.proofs.Common.{[], ◌∷◌, Some, inl, inr, refl, nat_eq}
use Rattle.at_model.specs.Classes.{chain}
use Rattle.at_model.specs.Paths.{node_eq}
use Rattle.at_model.specs.Run.{Ref}
use Rattle.at_model.specs.Meaning.{Circle}
use Rattle.at_model.specs.Samples.{Replies, calc_tree, tree_with_circle, of_node, printed, left_of, statement, init_of, root}
use Rattle.at_model.proofs.Apart.{apart}

-- the sum, the use in it, the declaration, the use in its initial value, and the declaration again
pub statement_circle : Replies tree_with_circle (of_node (printed 1) 5) (Circle (of_node (statement 0) 6))
unfolding chain
statement_circle = (
  of_node (left_of 1) 5 ∷ of_node (statement 0) 6 ∷ of_node (init_of 0) 5 ∷ [],
  (
    λ among. elim among [
      | inl e ↦ apart (λ i. node_eq i.node (printed 1)) (of_node (printed 1) 5) (of_node (left_of 1) 5) refl refl e
      | inr (inl e) ↦ apart (λ i. node_eq i.node (printed 1)) (of_node (printed 1) 5) (of_node (statement 0) 6) refl refl e
      | inr (inr (inl e)) ↦ apart (λ i. node_eq i.node (printed 1)) (of_node (printed 1) 5) (of_node (init_of 0) 5) refl refl e
      | inr (inr (inr none)) ↦ none
    ],
    (
      λ among. elim among [
        | inl e ↦ apart (λ i. node_eq i.node (left_of 1)) (of_node (left_of 1) 5) (of_node (statement 0) 6) refl refl e
        | inr (inl e) ↦ apart (λ i. node_eq i.node (left_of 1)) (of_node (left_of 1) 5) (of_node (init_of 0) 5) refl refl e
        | inr (inr none) ↦ none
      ],
      (
        λ among. elim among [
          | inl e ↦ apart (λ i. nat_eq i.attribute 6) (of_node (statement 0) 6) (of_node (init_of 0) 5) refl refl e
          | inr none ↦ none
        ],
        (λ none. none, tt),
      ),
    ),
  ),
  (
    inl refl,
    (inr (Ref (Some (statement 0)), (9, refl), inl refl), (inl refl, inr (Ref (Some (statement 0)), (9, refl), inl refl))),
  ),
  inr (inr (inl refl)),
)

-- c3 comes to circ, which comes to itself
pub root_circle : Replies calc_tree (of_node root 13) (Circle (of_node root 9))
unfolding chain
root_circle = (
  of_node root 9 ∷ [],
  (
    λ among. elim among [
      | inl e ↦ apart (λ i. nat_eq i.attribute 13) (of_node root 13) (of_node root 9) refl refl e
      | inr none ↦ none
    ],
    (λ none. none, tt),
  ),
  (inl refl, inl refl),
  inr (inl refl),
)

-- circ comes to itself
pub self_circle : Replies calc_tree (of_node root 9) (Circle (of_node root 9))
unfolding chain
self_circle = ([], (λ none. none, tt), inl refl, inl refl)

use Rattle.std.proofs.Common.{Some, [], ◌∷◌, codes, inl, inr, refl}
use Rattle.at_model.specs.Classes.{chain}
use Rattle.at_model.specs.Run.{Ref}
use Rattle.at_model.specs.Samples.{block, init_of, left_of, of_node, of_node_with, statement}
use Rattle.at_model.proofs.cases.support.Goals as goal

-- by value and decl of the use, its lookup, and local of the block
pub returns-clause-list : goal.returns-clause-list
unfolding chain
returns-clause-list c = (
  of_node_with block 2 (codes "x"),
  inr (of_node (left_of 1) 5 ∷ of_node (left_of 1) 4 ∷ of_node_with (left_of 1) 0 (codes "x") ∷ [], (inl refl, (inl refl, (inl refl, inl refl)))),
  inr (inl refl),
)

-- by value of the use, of the declaration and of the number
pub returns-clause-number : goal.returns-clause-number
unfolding chain
returns-clause-number c = (
  of_node (init_of 0) 5,
  inr (of_node (left_of 1) 5 ∷ of_node (statement 0) 6 ∷ [], (inl refl, (inr (Ref (Some (statement 0)), (9, refl), inl refl), inl refl))),
  inr (inl refl),
)

-- How much an expression has to do at most.
use Rattle.std.specs.Prelude.{ℕ, ◌+◌, ◌*◌}
use Rattle.at_model.specs.Bodies.{Expr, Exprs, no_exprs, expr, Negate, Not, Arithmetic, Compare, Join, JoinInt, Same, Differ, And, Or, Choose, Equals, InstanceOf, CastTo, Child, Element, Count, Has, TokenOf, Call, Exists, First, Sum, SeekAny, SeekFirst, Listed, Only, Union, Contains, Over, Children, Parent, Passed}

-- the most children that a component has
unfoldable pub most : ℕ
most = 16777216

-- a fold over so many nodes
abbrev pub tests : ℕ → ℕ → ℕ
tests size kids = 1 + kids * (size + 2)

abbrev mutual
  pub size : Expr → ℕ
  size (Negate a) = size a + 2
  size (Not a) = size a + 2
  size (Arithmetic o a b) = size a + size b + 3
  size (Compare o a b) = size a + size b + 3
  size (Join a b) = size a + size b + 3
  size (JoinInt a b) = size a + size b + 3
  size (Same a b) = size a + size b + 3
  size (Differ a b) = size a + size b + 3
  size (And a b) = size a + size b + 2
  size (Or a b) = size a + size b + 2
  size (Choose c a b) = size c + size a + size b + 2
  size (Equals a b) = size a + size b + 3
  size (InstanceOf a class) = size a + 2
  size (CastTo class a) = size a + 2
  size (Child a part) = size a + 2
  size (Element a part b) = size a + size b + 3
  size (Count a part) = size a + 2
  size (Has a part) = size a + 2
  size (TokenOf a part) = size a + 2
  size (Call a attribute bs) = size a + sizes bs + 3
  size (Exists a part b) = size a + tests (size b) most + 2
  size (First a part b) = size a + tests (size b) most + 2
  size (Sum a part b) = size a + tests (size b) most + 2
  size (Listed a part) = size a + 2
  size (Only a) = size a + 2
  size (Union a b) = size a + size b + 3
  size (Contains a b) = size a + size b + 3
  size (Over fold a b) = size a + tests (size b) (most + 1) + 2
  size (Children a) = size a + 2
  size (Parent a) = size a + 2
  size (Passed a) = size a + 2
  size (SeekAny a part key t b) = size a + size t + tests (size b) most + 3
  size (SeekFirst a part key t b) = size a + size t + tests (size b) most + 3
  size e = 1

  pub sizes : Exprs → ℕ
  sizes no_exprs = 0
  sizes (expr a as') = size a + 1 + sizes as'

-- What is no drawer no edit shifts: there `touches_in` says what `touches` says.
use Rattle.std.proofs.Common.{◌≡◌, ℕ, Bool, true, false, not, ◌||◌, Option, Some, None, refl}
use Rattle.at_model.specs.Trees.{Tree, Holds}
use Rattle.at_model.specs.Paths.{Node, parent_of, tree_at}
use Rattle.at_model.specs.Run.{Location}
use Rattle.at_model.specs.Bodies.{bool_eq}
use Rattle.at_model.specs.Edits.{Edit, Set, Put, Drop, Insert, Token, Move, with_cell}
use Rattle.at_model.specs.Touches.{touches, is_drawer, is_drawer_around, is_drawer_of, shifts, touches_in}

-- a test that is false of all
never : {A : Type 0} (P : A → Bool) (o : Option A) → ((a : A) → P a ≡ false) → elim o [ None ↦ false | Some a ↦ P a ] ≡ false
never P None h = refl
never P (Some a) h = h a

none_of_two : (a b : Bool) → a ≡ false → b ≡ false → (a || b) ≡ false
none_of_two true b e f = absurd cc
none_of_two false b e f = f

both_false : (a b : Bool) → a ≡ false → b ≡ false → not (bool_eq a b) ≡ false
both_false true b e f = absurd cc
both_false false true e f = absurd cc
both_false false false e f = refl

or_false : (a b : Bool) → b ≡ false → (a || b) ≡ a
or_false true b e = refl
or_false false b e = e

module _ (t : Tree) (l : Location Node) (none : (node : Node) (part : ℕ) (u : Tree) → is_drawer node part u l ≡ false) where
  around : (node : Node) (u : Tree) → is_drawer_around node u l ≡ false
  around node u = never (λ p. is_drawer p.0 p.1.0 u l) (parent_of node) (λ p. none p.0 p.1.0 u)

  there : (node : Node) → is_drawer_of t node l ≡ false
  there node = never (λ u. is_drawer_around node u l) (tree_at t node) (λ u. around node u)

  unshifted : (e : Edit) → shifts t e l ≡ false
  unshifted (Set node new) = none_of_two (is_drawer_of t node l) (is_drawer_around node new l) (there node) (around node new)
  unshifted (Put node part new) = none node part new
  unshifted (Drop node) = there node
  unshifted (Insert node part index new) = none node part new
  unshifted (Token node part v) =
      never (λ u. not (bool_eq (is_drawer_around node u l) (is_drawer_around node (with_cell (λ c. Holds v) part u) l)))
      (tree_at t node)
      (λ u. both_false (is_drawer_around node u l) (is_drawer_around node (with_cell (λ c. Holds v) part u) l) (around node u)
      (around node (with_cell (λ c. Holds v) part u)))
  unshifted (Move node to part index) =
      none_of_two (is_drawer_of t node l) (elim (tree_at t node) [ None ↦ false | Some u ↦ is_drawer to part u l ]) (there node)
      (never (λ u. is_drawer to part u l) (tree_at t node) (λ u. none to part u))

  pub touched_as_before : (e : Edit) → touches_in t e l ≡ touches e l
  touched_as_before e = or_false (touches e l) (shifts t e l) (unshifted e)

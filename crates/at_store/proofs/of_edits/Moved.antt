-- A tree that is within the limits is so after a move exactly where the levels of what is moved have room.
use Rattle.std.proofs.Common.{◌≡◌, ◌≤◌, ◌<◌, ℕ, suc, ◌+◌, ◌-◌, Bool, true, false, not, ◌&&◌, nat_le, length, Option, Some, None, refl, sym, ap, ◌∙◌, subst, arith, option_and_then, is_some}
use Rattle.std.proofs.lemmas.Bool.{leb-true}
use Rattle.std.proofs.lemmas.Bool.Decides.{nat_tests}
use Rattle.at_model.specs.Classes.{Classes}
use Rattle.at_model.specs.Terms.{max_depth}
use Rattle.at_model.specs.Trees.{Tree, One, Many, nodes, depth, conforms}
use Rattle.at_model.specs.Paths.{Node, tree_at, cell_at, parent_of}
use Rattle.at_model.specs.Edits.{Drop, Move, shape_at, list_class, plain_class, is_plain, tokens_short, left_by, with_node, with_cell, without_child}
use Rattle.at_model.proofs.Options.{both}
use Rattle.at_model.proofs.of_edits.Conforming.{wanted, lives}
use Rattle.at_model.proofs.of_edits.Surviving.{parent_is}
use Rattle.at_model.proofs.of_edits.Untouching.{list_cell, component_there}
use Rattle.at_model.proofs.of_edits.Edited.{is_move}
use Rattle.at_model.proofs.of_edits.Moved.{between, left_is, ok1, has1, range1, taking_is, plain}
use Rattle.at_store.specs.Refusing.{IsAllowed}
use Rattle.at_store.proofs.Counts.{of_cell, count_drop}
use Rattle.at_store.proofs.Depths.{moved_length, one_at_least}
use Rattle.at_store.proofs.of_edits.Room.{in_bounds, insert_room, drop_room, true_le}
use Rattle.at_store.proofs.ShortTokens.{node_changed}
use Rattle.at_store.proofs.Sizes.{above_there}

-- room for so many levels
levels_left : (d l n : ℕ) → 0 < d → nat_le d (n - suc l) ≡ nat_le (suc l + d) n
levels_left d l n h = by_tests (nat_le d (n - suc l)) (nat_le (suc l + d) n) refl refl
  where
    by_tests : (x y : Bool) → nat_le d (n - suc l) ≡ x → nat_le (suc l + d) n ≡ y → x ≡ y
    by_tests true true e f = refl
    by_tests false false e f = refl
    by_tests true false e f = let g : d ≤ n - suc l = grind (arith, nat_tests) in let k : n < suc l + d = grind (arith, nat_tests) in absurd (omega (arith, g, k, h))
    by_tests false true e f = let g : n - suc l < d = grind (arith, nat_tests) in let k : suc l + d ≤ n = grind (arith, nat_tests) in absurd (omega (arith, g, k, h))

only_levels : (a b c : Bool) → a ≡ true → c ≡ true → b ≡ (a && b && c)
only_levels true true true e f = refl
only_levels true false true e f = refl
only_levels false b c e f = cc
only_levels a b false e f = cc

module _ (classes : Classes) (t : Tree) (ok : conforms classes t 0 ≡ true) (most : ℕ) (within : in_bounds most t ≡ true) where
  drop_plain : (n : Node) (p : Node × (ℕ × ℕ)) → parent_of n ≡ Some p → is_some (option_and_then plain_class (shape_at classes t p.0 p.1.0)) ≡ false → not (is_plain classes t n) ≡ true
  drop_plain n p above bare = ap not (ap (λ (o : Option (Node × (ℕ × ℕ))). elim o as (λ _. Bool)
      [ None ↦ true | Some p ↦ is_some (option_and_then plain_class (shape_at classes t p.0 p.1.0)) ]) above ∙ bare)

  pub move_room : (n m : Node) (part index : ℕ) (u : Tree) → tree_at t n ≡ Some u →
      IsAllowed classes t (Move n m part index) →
      nat_le (depth u) (max_depth - suc (length m)) ≡ in_bounds most (left_by t (Move n m part index))
  move_room n m part index u found allowed =
      let move = is_move classes t n m part index allowed.fit allowed.removable allowed.outside in
      let p = move.place in
      let q = move.target in
      let mid = between classes t ok n m part index allowed.loose u found p move.above move.listed q move.goes allowed.component allowed.fit allowed.index in
      let left = left_is classes t ok n m part index allowed.loose u found p move.above move.listed q move.goes allowed.component allowed.fit allowed.index in
      let ok' = ok1 classes t ok n m part index allowed.loose u found p move.above move.listed q move.goes allowed.component allowed.fit allowed.index in
      let has' = has1 classes t ok n m part index allowed.loose u found p move.above move.listed q move.goes allowed.component allowed.fit allowed.index in
      let range' = range1 classes t ok n m part index allowed.loose u found p move.above move.listed q move.goes allowed.component allowed.fit allowed.index in
      let taking = taking_is classes t ok n m part index allowed.loose u found p move.above move.listed q move.goes allowed.component allowed.fit allowed.index in
      let taken : left_by t (Drop n) ≡ mid = ap (λ (o : Option (Node × (ℕ × ℕ))). elim o as (λ _. Tree) [ None ↦ t | Some p ↦ with_node (with_cell (without_child p.1.1) p.1.0) t p.0 ]) move.above in
      let (x, there, child) = above_there t p.0 p.1 u (sym (ap (tree_at t) (parent_is n p move.above)) ∙ found) in
      let (c, here, in_it) = of_cell (cell_at x p.1.0) p.1.1 u child in
      let (shape, some, conf) = component_there classes t ok list_class p.0 p.1.0 x c move.listed there here in
      let (ts, many) = list_cell classes c shape some conf in
      let not_one : (y : Tree) → c ≡ One y → ⊥ = λ y one. (let f : Many ts ≡ One y = sym many ∙ one in cc) in
      let count : nodes (left_by t (Drop n)) + nodes u ≡ nodes t = count_drop t n p.0 p.1 x u c move.above found there here not_one in
      let few = leb-true (nodes t) most (both _ _ (both _ _ within).0).0 in
      let within' : in_bounds most mid ≡ true = sym (ap (in_bounds most) taken)
      ∙ sym (drop_room classes t ok most within n u found (drop_plain n p move.above (plain classes t ok n m part index allowed.loose u found p move.above
      move.listed q move.goes allowed.component allowed.fit allowed.index))) in
      let (shape', sees) = wanted classes list_class (shape_at classes mid q part) has' in
      let (w, at_q) = lives classes mid q part shape' sees in
      let room' = insert_room classes mid ok' most within' q part index u w at_q has' range' in
      let long : length q ≡ length m = moved_length _ p.0 m q (sym (taking m) ∙ move.goes) in
      let fewer : nat_le (nodes mid + nodes u) most ≡ true = true_le (nodes mid + nodes u) most (subst (λ (z : Tree). nodes z + nodes u ≤ most) taken (omega (arith, count, few))) in
      levels_left (depth u) (length m) max_depth (one_at_least u) ∙ ap (λ l. nat_le (suc l + depth u) max_depth) (sym long) ∙
      only_levels (nat_le (nodes mid + nodes u) most) (nat_le (suc (length q) + depth u) max_depth) (tokens_short u) fewer (node_changed (λ y. y) t n u (both _ _ within).1 found).1 ∙
      room' ∙ ap (in_bounds most) (sym left)

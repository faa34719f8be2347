-- Where an edit is accepted, the cell that it changes is of the shape that it needs.
use Rattle.std.proofs.Common.{◌≡◌, ℕ, suc, ◌≤◌, Bool, true, false, Option, Some, None, Ok, refl, sym, ap, ◌∙◌, subst, option_and_then, option_map, is_some, length}
use Rattle.std.proofs.lemmas.Bool.{leb-true, eqb-true}
use Rattle.at_model.specs.Classes.{Classes}
use Rattle.at_model.specs.Trees.{Cell, Cells, Empty, Filled, Holds, Many, One, Tree, Trees, cells_of, children, class_of, conforms, from_trees, no_trees, tree}
use Rattle.at_model.specs.Trees as trees
use Rattle.at_model.specs.Paths.{Node, cell_at, parent_of, tree_at}
use Rattle.at_model.specs.Edits.{Edit, Put, Drop, Insert, Token, children_of, edited, is_plain, is_within_limits, list_class, max_nodes, optional_class, plain_class, shape_at, token_kind}
use Rattle.at_model.proofs.of_edits.Conforming.{accepted}
use Rattle.at_model.proofs.of_edits.Surviving.{parent_is}
use Rattle.at_model.proofs.of_edits.Untouching.{list_cell, not_false, plain_cell, selected, shape_there}
use Rattle.at_store.specs.Numbers.{relabel, relabel_cell, relabel_trees}
use Rattle.at_store.specs.Refusing.{IsAllowed}
use Rattle.at_store.proofs.Counts.{of_cell}
use Rattle.at_store.proofs.Relabelled.{relabelled-cell_at, relabelled-tree_at}
use Rattle.at_store.proofs.of_edits.Room.{children_are, empty_cell, held, holds_cell}
use Rattle.at_store.proofs.Sizes.{above_there}

pub allowed : (classes : Classes) (t : Tree) (e : Edit) (u : Tree) → edited classes t e ≡ Ok u → IsAllowed classes t e
allowed classes t e u is =
    let made = accepted classes t e u is in
    record { component = made.component; fit = made.fit; index = made.index; empty = made.free; loose = made.loose; removable = made.removable; outside = made.outside }

-- what a cell was before its numbers were taken for classes
module _ (f : ℕ → ℕ) where
  cell_before : (o : Option Cell) (d : Cell) → option_map (relabel_cell f) o ≡ Some d → (c : Cell) × (o ≡ Some c) × (relabel_cell f c ≡ d)
  cell_before None d e = absurd cc
  cell_before (Some c) d e = (c, refl, cc)

  was_empty : (c : Cell) → relabel_cell f c ≡ Empty → c ≡ Empty
  was_empty (One t) e = absurd cc
  was_empty (Many ts) e = absurd cc
  was_empty Empty e = refl
  was_empty (Filled t) e = absurd cc
  was_empty (Holds v) e = absurd cc

  same_length : (ts : Trees) → length (from_trees (relabel_trees f ts)) ≡ length (from_trees ts)
  same_length no_trees = refl
  same_length (tree t ts) = ap suc (same_length ts)

  was_many : (c : Cell) (us : Trees) → relabel_cell f c ≡ Many us → (ts : Trees) × (c ≡ Many ts) × (relabel_trees f ts ≡ us)
  was_many (One t) us e = absurd cc
  was_many (Many ts) us e = (ts, refl, cc)
  was_many Empty us e = absurd cc
  was_many (Filled t) us e = absurd cc
  was_many (Holds v) us e = absurd cc

  was_token : (c : Cell) (v : trees.Token) → relabel_cell f c ≡ Holds v → c ≡ Holds v
  was_token (One t) v e = absurd cc
  was_token (Many ts) v e = absurd cc
  was_token Empty v e = absurd cc
  was_token (Filled t) v e = absurd cc
  was_token (Holds w) v e = e

module _ (classes : Classes) (f : ℕ → ℕ) (s : Tree) (ok : conforms classes (relabel f s) 0 ≡ true)
    (within : is_within_limits (relabel f s) ≡ true) (n : Node) (u : Tree) (found : tree_at s n ≡ Some u) where
  abbrev t : Tree
  t = relabel f s

  there : tree_at t n ≡ Some (relabel f u)
  there = relabelled-tree_at f s n ∙ ap (option_map (relabel f)) found

  cell_numbered : (part : ℕ) (d : Cell) → cell_at (relabel f u) part ≡ Some d → (c : Cell) × (cell_at u part ≡ Some c) × (relabel_cell f c ≡ d)
  cell_numbered part d e = cell_before f (cell_at u part) d (sym (relabelled-cell_at f u part) ∙ e)

  pub put_cell : (part : ℕ) (x : Tree) → IsAllowed classes t (Put n part x) → cell_at u part ≡ Some Empty
  put_cell part x h =
      let (d, shape, here, some, conf) = held classes t ok max_nodes within optional_class n part (relabel f u) h.component there in
      let zero_long : length (children_of t n part) ≡ 0 = eqb-true (length (children_of t n part)) 0 h.empty in
      let empty : d ≡ Empty = empty_cell classes d shape some conf (sym (ap length (children_are classes t ok max_nodes within n part (relabel f u) d there here)) ∙ zero_long) in
      let (c, at', same) = cell_numbered part d here in
      at' ∙ ap Some (was_empty f c (same ∙ empty))

  pub insert_cell : (part index : ℕ) (x : Tree) → IsAllowed classes t (Insert n part index x) → (ts : Trees) × (cell_at u part ≡ Some (Many ts)) × (index ≤ length (from_trees ts))
  insert_cell part index x h =
      let (d, shape, here, some, conf) = held classes t ok max_nodes within list_class n part (relabel f u) h.component there in
      let (us, many) = list_cell classes d shape some conf in
      let (c, at', same) = cell_numbered part d here in
      let (ts, list, elements) = was_many f c us (same ∙ many) in
      let most : index ≤ length (children_of t n part) = leb-true index (length (children_of t n part)) h.index in
      let long : length (children_of t n part) ≡ length (from_trees ts) =
      ap length (children_are classes t ok max_nodes within n part (relabel f u) d there here ∙ ap children many)
      ∙ ap (λ (x : Trees). length (from_trees x)) (sym elements) ∙ same_length f ts in
      (ts, at' ∙ ap Some list, subst (λ k. index ≤ k) long most)

  pub token_cell : (part : ℕ) (v : trees.Token) → IsAllowed classes t (Token n part v) → (was : trees.Token) × (cell_at u part ≡ Some (Holds was))
  token_cell part v h =
      let (d, shape, here, some, conf) = held classes t ok max_nodes within token_kind n part (relabel f u) h.component there in
      let (was, holds) = holds_cell classes d shape some conf in
      let (c, at', same) = cell_numbered part d here in
      (was, at' ∙ ap Some (was_token f c was (same ∙ holds)))

-- what is dropped stands below a node, in no plain child
pub record IsLoose (s : Tree) (n : Node) : Type 0 where
  pub above : Node
  pub way : ℕ × ℕ
  pub parent : Tree
  pub cell : Cell
  pub under : parent_of n ≡ Some (above, way)
  pub found : tree_at s above ≡ Some parent
  pub here : cell_at parent way.0 ≡ Some cell
  pub loose : (t : Tree) → cell ≡ One t → ⊥

pub drop_cell : (classes : Classes) (f : ℕ → ℕ) (s : Tree) → conforms classes (relabel f s) 0 ≡ true
    → (n : Node) (x : Tree) → tree_at s n ≡ Some x → IsAllowed classes (relabel f s) (Drop n) → IsLoose s n
drop_cell classes f s ok n x found h = by_parent (parent_of n) refl (not_false (is_plain classes (relabel f s) n) h.removable)
  where
    by_parent : (o : Option (Node × (ℕ × ℕ))) → parent_of n ≡ o → elim o as (λ _. Bool) [
      | None ↦ true
      | Some p ↦
          is_some (option_and_then plain_class (shape_at classes (relabel f s) p.0 p.1.0))
    ] ≡ false → IsLoose s n
    by_parent None e plain = absurd cc
    by_parent (Some (p, way)) e plain =
        let (u, there, child) = above_there s p way x (sym (ap (tree_at s) (parent_is n (p, way) e)) ∙ found) in
        let (c, here, in_it) = of_cell (cell_at u way.0) way.1 x child in
        let shown : tree_at (relabel f s) p ≡ Some (relabel f u) = relabelled-tree_at f s p ∙ ap (option_map (relabel f)) there in
        let shown_cell : cell_at (relabel f u) way.0 ≡ Some (relabel_cell f c) = relabelled-cell_at f u way.0 ∙ ap (option_map (relabel_cell f)) here in
        let (shape, sees, conf) = shape_there classes (relabel f s) p way.0 (relabel f u) (relabel_cell f c) ok shown shown_cell in
        record {
          above = p;
          way = way;
          parent = u;
          cell = c;
          under = e;
          found = there;
          here = here;
          loose = λ y one. plain_cell classes (relabel f y) shape
              (selected plain_class (shape_at classes (relabel f s) p way.0) false shape sees plain)
              (subst (λ (z : Cell). trees.cell_conforms classes (relabel_cell f z) shape ≡ true) one conf);
        }

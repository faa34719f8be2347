-- A node that is carried is there again, and is the same tree where the edit is elsewhere.
use Rattle.std.proofs.Common.{◌≡◌, true, false, List, [], ◌∷◌, Option, Some, None, sym, subst, option_and_then, is_some}
use Rattle.std.specs.List.{list_any}
use Rattle.at_model.specs.Classes.{Classes}
use Rattle.at_model.specs.Trees.{Tree, class_of, conforms}
use Rattle.at_model.specs.Paths.{Node, tree_at, is_within, parent_of}
use Rattle.at_model.specs.Edits.{Set, shape_at, plain_class, with_child, with_cell, with_node, without_child, left_by, node_above, moved_under, past_set, past_drop}
use Rattle.at_model.proofs.of_edits.Conforming.{set_in_parent}
use Rattle.at_model.proofs.of_edits.Moving.{Way}
use Rattle.at_model.proofs.of_edits.Ways.{set_keeps, drop_keeps}
use Rattle.at_model.proofs.of_edits.Untouched.{cell_there}
use Rattle.at_model.proofs.of_edits.Untouching.{set_fits, drop_fits, false_or}

-- a tree of the same class is there, and the same one where the edit is elsewhere
pub record IsThere (u : Tree) (m : Node) (v : Tree) (elsewhere : Type 0) : Type 0 where
  pub now : Tree
  pub there : tree_at u m ≡ Some now
  pub class_same : class_of now ≡ class_of v
  pub same : elsewhere → now ≡ v

-- none of the changes is at the node or below it
abbrev pub IsElsewhere : List Node → Node → Type 0
IsElsewhere ps n = list_any (is_within n) ps ≡ false

pub as_there : (u : Tree) (m n : Node) (v : Tree) (p : Node) → (w : Tree) × (tree_at u m ≡ Some w)
    × (class_of w ≡ class_of v) × (is_within n p ≡ false → w ≡ v) → IsThere u m v (IsElsewhere (p ∷ []) n)
as_there u m n v p (w, found, class, same) = record { now = w; there = found; class_same = class; same = λ h. same (false_or (is_within n p) false h).0 }

module _ (classes : Classes) (t : Tree) (ok : conforms classes t 0 ≡ true) (n m : Node) (v : Tree) (found : tree_at t n ≡ Some v) where
  pub at_set : (node : Node) (new : Tree) (o : Option (Node × Way)) → parent_of node ≡ o
      → elim o [ None ↦ None | Some p ↦ moved_under p.0 (past_set p.1) n ] ≡ Some m
      → IsThere (left_by t (Set node new)) m v (IsElsewhere (node_above node) n)
  at_set node new None is e = absurd cc
  at_set node new (Some p) is e =
      let P : Option (Node × Way) → Type 0 = λ o. IsThere (left_by t (Set node new)) m v (IsElsewhere (elim o [ None ↦ [] | Some p ↦ p.0 ∷ [] ]) n) in
      subst P (sym is)
      (subst (λ (x : Tree). IsThere x m v (IsElsewhere (p.0 ∷ []) n)) (sym (set_in_parent classes new node p is t))
      (as_there _ m n v p.0 (cell_there (with_child (λ u. new) p.1.1) p.1.0 (past_set p.1) (set_keeps p.1) t p.0 n m v (set_fits classes t ok new p) e found)))

  pub at_drop : (o : Option (Node × Way))
      → elim o [ None ↦ true | Some p ↦ is_some (option_and_then plain_class (shape_at classes t p.0 p.1.0)) ] ≡ false
      → elim o [ None ↦ None | Some p ↦ moved_under p.0 (past_drop p.1) n ] ≡ Some m →
      IsThere (elim o [ None ↦ t | Some p ↦ with_node (with_cell (without_child p.1.1) p.1.0) t p.0 ]) m v (IsElsewhere (elim o [ None ↦ [] | Some p ↦ p.0 ∷ [] ]) n)
  at_drop None plain e = absurd cc
  at_drop (Some p) plain e = as_there _ m n v p.0 (cell_there (without_child p.1.1) p.1.0 (past_drop p.1) (drop_keeps p.1) t p.0 n m v (drop_fits classes t ok p plain) e found)

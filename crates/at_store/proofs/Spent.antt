-- Of the room that a tree may take, what its cells and the elements of its lists leave one after the other.
use Rattle.std.proofs.Common.{◌≡◌, ℕ, suc, ◌+◌, ◌-◌, ◌<◌, ◌≤◌, List, length, drop, get_or, map, ap, sym, ◌∙◌, ◌⊎◌, add-one, arith, Option, Some, None}
use Rattle.std.proofs.Math.Seq.{drop-cons}
use Rattle.std.proofs.lemmas.List.{drop_all}
use Rattle.std.proofs.lemmas.Bool.Decides.{nat_tests}
use Rattle.std.specs.Prelude.{Bool, true, ◌&&◌, is_some, max, nat_le, option_and_then}
use Rattle.at_model.specs.Trees.{Tree, Cell, Node as branch, to_cells, to_trees, cells_nodes, cells_depth, cell_nodes, cell_depth, trees_nodes, trees_depth, nodes, depth}
use Rattle.at_model.specs.Terms.{max_depth}
use Rattle.at_model.specs.Edits.{tokens_short, cell_tokens_short, cells_tokens_short, trees_tokens_short}
use Rattle.at_tree.specs.TreeView.{see_tree, see_cell, tree_view, cell_view}
use Rattle.at_class.specs.declared.tree.Tree.{Tree as TreeValue, out-Tree}
use Rattle.at_class.specs.declared.tree.Cell.{Cell as CellValue}
use Rattle.at_class.specs.declared.tree.Cell.TheFolds.{fold_out-Tree}
use Rattle.at_store.specs.Spending.{left_of, left_by_tree, left_by_cell, left_by_trees}
use Rattle.at_store.specs.Told.{room}

pub left_joined : (n m d e : ℕ) (s t : Bool) (r l : ℕ) → left_of (n + m) (max d e) (s && t) r l ≡ option_and_then (λ q. left_of m e t q l) (left_of n d s r l)
left_joined n m d e s t r l = grind (arith, nat_tests)

left_whole : (n d : ℕ) (s : Bool) (r l : ℕ) → (r ≡ 0 → ⊥) → (l ≡ 0 → ⊥) → left_of (1 + n) (1 + d) s r l ≡ left_of n d s (r - 1) (l - 1)
left_whole n d s r l some deep = grind (arith, nat_tests)

left_end : (r l : ℕ) → left_of 0 0 true r l ≡ Some r
left_end r l = grind (arith, nat_tests)

left_none : (n d : ℕ) (s : Bool) (r l : ℕ) → (r ≡ 0) ⊎ (l ≡ 0) → left_of (1 + n) (1 + d) s r l ≡ None
left_none n d s r l none = grind (arith, nat_tests)

-- what is left of the cells
abbrev pub rest_left : List CellValue → (i room levels : ℕ) → Option ℕ
rest_left xs i room levels = left_of (cells_nodes (to_cells (map cell_view (drop i xs)))) (cells_depth
    (to_cells (map cell_view (drop i xs)))) (cells_tokens_short (to_cells (map cell_view (drop i xs)))) room levels

-- what is left of the trees
abbrev pub rest_trees_left : List TreeValue → (i room levels : ℕ) → Option ℕ
rest_trees_left xs i room levels = left_by_trees (to_trees (map tree_view (drop i xs))) room levels

whole : (t : TreeValue) (room levels : ℕ) → left_by_tree (tree_view t) room levels ≡ left_by_tree (branch (out-Tree t).class (to_cells (map cell_view (out-Tree t).cells.items))) room levels
whole t room levels = ap (λ u. left_by_tree u room levels) (fold_out-Tree Cell Tree see_cell see_tree t)

left_beside : (n d others level most deep : ℕ) (s : Bool) → is_some (left_of (1 + n) (1 + d) s (most - others) (deep - level))
    ≡ (nat_le (others + (1 + n)) most && nat_le (level + (1 + d)) deep && s)
left_beside n d others level most deep s = grind (arith, nat_tests)

fewer_beside : (n d others level most deep size : ℕ) (s : Bool) → (nat_le (others + n) most && nat_le (level + d) deep && s) ≡ true
    → (nat_le (others - size + n) most && nat_le (level + d) deep && s) ≡ true
fewer_beside n d others level most deep size s h = grind (arith, nat_tests, h)

-- where there is room beside some nodes there is beside fewer
pub room_beside_fewer : (most others size level : ℕ) (t : Tree) → room most others level t ≡ true → room most (others - size) level t ≡ true
room_beside_fewer most others size level t h = fewer_beside (nodes t) (depth t) others level most max_depth size (tokens_short t) h

-- beside so many nodes and below so many levels anything is left by a tree for which there is room
pub left_in_room : (most others level : ℕ) (t : Tree) → is_some (left_by_tree t (most - others) (max_depth - level)) ≡ room most others level t
left_in_room most others level (branch k cells) = left_beside (cells_nodes cells) (cells_depth cells) others level most max_depth (cells_tokens_short cells)

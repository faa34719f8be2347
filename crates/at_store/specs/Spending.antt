-- Nodes that are left of those that a tree may have.
use Rattle.std.specs.Prelude.{ℕ, ◌-◌, Bool, ◌&&◌, nat_le, if◌then◌else◌, Option, Some, None}
use Rattle.at_model.specs.Edits.{tokens_short, cell_tokens_short, trees_tokens_short}
use Rattle.at_model.specs.Trees.{Tree, Cell, Trees, nodes, cell_nodes, trees_nodes, depth, cell_depth, trees_depth}

-- what is left of this room, if so many nodes are within it, if so deep is within these levels, and if the texts are short
abbrev pub left_of : (count deep : ℕ) → (short : Bool) → (room levels : ℕ) → Option ℕ
left_of count deep short room levels = if nat_le count room && nat_le deep levels && short then Some (room - count) else None

-- what a tree leaves, what stands in a cell, and what a list of trees leaves
abbrev pub left_by_tree : Tree → (room levels : ℕ) → Option ℕ
left_by_tree t = left_of (nodes t) (depth t) (tokens_short t)

abbrev pub left_by_cell : Cell → (room levels : ℕ) → Option ℕ
left_by_cell c = left_of (cell_nodes c) (cell_depth c) (cell_tokens_short c)

abbrev pub left_by_trees : Trees → (room levels : ℕ) → Option ℕ
left_by_trees ts = left_of (trees_nodes ts) (trees_depth ts) (trees_tokens_short ts)

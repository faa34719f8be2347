-- The tree that a memory holds below a number.
use Rattle.std.specs.Prelude.{ℕ, zero, suc, [], ◌∷◌, map, Option, Some, None}
use Rattle.at_model.specs.Trees.{Tree, Cell, Node as branch, no_cells, One, Many, Empty, Filled, Holds, to_cells, to_trees}
use Rattle.at_store.specs.Numbers.{relabel}
use Rattle.at_store.specs.Memory.{class_in, Info, Kept, Kids, Token_of, Plain, List_of, Optional}

-- a cell, whose trees stand below the numbers of its children
abbrev pub grown_cell : (ℕ → Tree) → Kept → Cell
grown_cell deeper (Kids Plain []) = Empty
grown_cell deeper (Kids Plain (n ∷ ns)) = One (deeper n)
grown_cell deeper (Kids List_of ns) = Many (to_trees (map deeper ns))
grown_cell deeper (Kids Optional []) = Empty
grown_cell deeper (Kids Optional (n ∷ ns)) = Filled (deeper n)
grown_cell deeper (Token_of v) = Holds v

-- a node, by what is kept of it
abbrev pub grown_node : (ℕ → Tree) → ℕ → Option Info → Tree
grown_node deeper k None = branch k no_cells
grown_node deeper k (Some i) = branch k (to_cells (map (grown_cell deeper) i.cells))

-- the tree below a number, of so many levels
unfoldable pub grown : (ℕ → Option Info) → ℕ → ℕ → Tree
grown memory zero k = branch k no_cells
grown memory (suc levels) k = grown_node (grown memory levels) k (memory k)

-- the same with the class of each number
abbrev pub shown_below : (ℕ → Option Info) → ℕ → ℕ → Tree
shown_below memory levels k = relabel (class_in memory) (grown memory levels k)

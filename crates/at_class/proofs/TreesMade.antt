-- Tokens of lists of cells and of trees, one more at the end.
use Rattle.std.proofs.Common.{List, [], ◌∷◌, ◌++◌}
use Rattle.at_model.specs.SyntaxTrees.{AreTokens, CellsAreTokens, CellIsTokens, TreesAreTokens, Cell, Tree, to_cells, to_trees}

pub cells_more : (cs : List Cell) (c : Cell) → CellsAreTokens (to_cells cs) → CellIsTokens c → CellsAreTokens (to_cells (cs ++ c ∷ []))
cells_more [] c h k = (k, tt)
cells_more (d ∷ ds) c h k = (h.0, cells_more ds c h.1 k)

pub trees_more : (ts : List Tree) (t : Tree) → TreesAreTokens (to_trees ts) → AreTokens t → TreesAreTokens (to_trees (ts ++ t ∷ []))
trees_more [] t h k = (k, tt)
trees_more (u ∷ us) t h k = (h.0, trees_more us t h.1 k)

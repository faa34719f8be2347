-- The tests of trees decide whether they are one.
use Rattle.std.proofs.Common.{◌≡◌, true, false, refl, ap}
use Rattle.std.specs.Prelude.{nat_eq}
use Rattle.std.proofs.lemmas.Slice.Eq.{bytes_eq-Decides}
use Rattle.at_model.specs.SyntaxTrees.{Token, Text, Int, Truth, Tree, Node, Cells, no_cells, cell, Cell, One, Many, Empty, Filled, Holds, Trees, no_trees, tree, token_eq, tree_eq, cells_eq, cell_eq, trees_eq}
use Rattle.std.proofs.lemmas.Bool.Decides.{Decides-int_eq}
use Rattle.at_model.proofs.Options.{both, and_true}
use Rattle.at_model.proofs.Nodes.{nat_eq-is}

token_eq-sound : (v w : Token) → token_eq v w ≡ true → v ≡ w
token_eq-sound (Text a) (Text b) e = ap Text ((bytes_eq-Decides a b).0 e)
token_eq-sound (Int m) (Int n) e = ap Int ((Decides-int_eq m n).0 e)
token_eq-sound (Truth true) (Truth true) e = refl
token_eq-sound (Truth true) (Truth false) e = absurd cc
token_eq-sound (Truth false) (Truth true) e = absurd cc
token_eq-sound (Truth false) (Truth false) e = refl
token_eq-sound (Text a) (Int n) e = absurd cc
token_eq-sound (Text a) (Truth b) e = absurd cc
token_eq-sound (Int m) (Text b) e = absurd cc
token_eq-sound (Int m) (Truth b) e = absurd cc
token_eq-sound (Truth a) (Text b) e = absurd cc
token_eq-sound (Truth a) (Int n) e = absurd cc

token_eq-refl : (v : Token) → token_eq v v ≡ true
token_eq-refl (Text a) = (bytes_eq-Decides a a).1 refl
token_eq-refl (Int n) = (Decides-int_eq n n).1 refl
token_eq-refl (Truth true) = refl
token_eq-refl (Truth false) = refl

mutual
  pub tree_eq-sound : (t u : Tree) → tree_eq t u ≡ true → t ≡ u
  tree_eq-sound (Node c cells) (Node d others) e =
      let (x, y) = both (nat_eq c d) (cells_eq cells others) e in
      let same = (nat_eq-is c d).0 x in
      let under = cells_eq-sound cells others y in λ i. Node (same i) (under i)

  cells_eq-sound : (cs ds : Cells) → cells_eq cs ds ≡ true → cs ≡ ds
  cells_eq-sound no_cells no_cells e = refl
  cells_eq-sound no_cells (cell d ds) e = absurd cc
  cells_eq-sound (cell c cs) no_cells e = absurd cc
  cells_eq-sound (cell c cs) (cell d ds) e =
      let (x, y) = both (cell_eq c d) (cells_eq cs ds) e in
      let first = cell_eq-sound c d x in
      let rest = cells_eq-sound cs ds y in λ i. cell (first i) (rest i)

  pub cell_eq-sound : (c d : Cell) → cell_eq c d ≡ true → c ≡ d
  cell_eq-sound (One t) (One u) e = ap One (tree_eq-sound t u e)
  cell_eq-sound (One t) (Many us) e = absurd cc
  cell_eq-sound (One t) Empty e = absurd cc
  cell_eq-sound (One t) (Filled u) e = absurd cc
  cell_eq-sound (One t) (Holds w) e = absurd cc
  cell_eq-sound (Many ts) (One u) e = absurd cc
  cell_eq-sound (Many ts) (Many us) e = ap Many (trees_eq-sound ts us e)
  cell_eq-sound (Many ts) Empty e = absurd cc
  cell_eq-sound (Many ts) (Filled u) e = absurd cc
  cell_eq-sound (Many ts) (Holds w) e = absurd cc
  cell_eq-sound Empty (One u) e = absurd cc
  cell_eq-sound Empty (Many us) e = absurd cc
  cell_eq-sound Empty Empty e = refl
  cell_eq-sound Empty (Filled u) e = absurd cc
  cell_eq-sound Empty (Holds w) e = absurd cc
  cell_eq-sound (Filled t) (One u) e = absurd cc
  cell_eq-sound (Filled t) (Many us) e = absurd cc
  cell_eq-sound (Filled t) Empty e = absurd cc
  cell_eq-sound (Filled t) (Filled u) e = ap Filled (tree_eq-sound t u e)
  cell_eq-sound (Filled t) (Holds w) e = absurd cc
  cell_eq-sound (Holds v) (One u) e = absurd cc
  cell_eq-sound (Holds v) (Many us) e = absurd cc
  cell_eq-sound (Holds v) Empty e = absurd cc
  cell_eq-sound (Holds v) (Filled u) e = absurd cc
  cell_eq-sound (Holds v) (Holds w) e = ap Holds (token_eq-sound v w e)

  trees_eq-sound : (ts us : Trees) → trees_eq ts us ≡ true → ts ≡ us
  trees_eq-sound no_trees no_trees e = refl
  trees_eq-sound no_trees (tree u us) e = absurd cc
  trees_eq-sound (tree t ts) no_trees e = absurd cc
  trees_eq-sound (tree t ts) (tree u us) e =
      let (x, y) = both (tree_eq t u) (trees_eq ts us) e in
      let first = tree_eq-sound t u x in
      let rest = trees_eq-sound ts us y in λ i. tree (first i) (rest i)

mutual
  pub tree_eq-refl : (t : Tree) → tree_eq t t ≡ true
  tree_eq-refl (Node c cells) = and_true _ _ ((nat_eq-is c c).1 refl) (cells_eq-refl cells)

  cells_eq-refl : (cs : Cells) → cells_eq cs cs ≡ true
  cells_eq-refl no_cells = refl
  cells_eq-refl (cell c cs) = and_true _ _ (cell_eq-refl c) (cells_eq-refl cs)

  pub cell_eq-refl : (c : Cell) → cell_eq c c ≡ true
  cell_eq-refl (One t) = tree_eq-refl t
  cell_eq-refl (Many ts) = trees_eq-refl ts
  cell_eq-refl Empty = refl
  cell_eq-refl (Filled t) = tree_eq-refl t
  cell_eq-refl (Holds v) = token_eq-refl v

  trees_eq-refl : (ts : Trees) → trees_eq ts ts ≡ true
  trees_eq-refl no_trees = refl
  trees_eq-refl (tree t ts) = and_true _ _ (tree_eq-refl t) (trees_eq-refl ts)

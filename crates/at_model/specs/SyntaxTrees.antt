-- Syntax trees: a class and a cell for each of its components (JastAdd2 reference manual, "Abstract syntax"). A class is named by its
-- position.
use Rattle.std.specs.Prelude.{ℕ, ◌<◌, ℤ, pos, negsuc, ⊤, Bool, true, false, ◌&&◌, not, nat_eq, List, [], ◌∷◌}
use Rattle.std.specs.Str.{IsUtf8, bytes_eq}
use Rattle.std.specs.Ordering.{int_eq}

-- the value of a token
pub data Token : Type 0 where
  Text : List ℕ → Token
  Int : ℤ → Token
  Truth : Bool → Token

mutual
  pub data Tree : Type 0 where
    Node : (class : ℕ) → (cells : Cells) → Tree

  pub data Cells : Type 0 where
    no_cells : Cells
    cell : Cell → Cells → Cells

  -- one tree, a list of trees, an optional that is empty or filled, a token
  pub data Cell : Type 0 where
    One : Tree → Cell
    Many : Trees → Cell
    Empty : Cell
    Filled : Tree → Cell
    Holds : Token → Cell

  pub data Trees : Type 0 where
    no_trees : Trees
    tree : Tree → Trees → Trees

abbrev pub class_of : Tree → ℕ
class_of (Node c cells) = c

abbrev pub cells_of : Tree → Cells
cells_of (Node c cells) = cells

abbrev pub to_cells : List Cell → Cells
to_cells [] = no_cells
to_cells (c ∷ cs) = cell c (to_cells cs)

abbrev pub from_cells : Cells → List Cell
from_cells no_cells = []
from_cells (cell c cs) = c ∷ from_cells cs

abbrev pub to_trees : List Tree → Trees
to_trees [] = no_trees
to_trees (t ∷ ts) = tree t (to_trees ts)

abbrev pub from_trees : Trees → List Tree
from_trees no_trees = []
from_trees (tree t ts) = t ∷ from_trees ts

-- the trees in a cell
abbrev pub children : Cell → List Tree
children (One t) = t ∷ []
children (Many ts) = from_trees ts
children Empty = []
children (Filled t) = t ∷ []
children (Holds v) = []

-- within 32 bits
abbrev pub IsInt32 : ℤ → Type 0
IsInt32 (pos n) = n < 2147483648
IsInt32 (negsuc n) = n < 2147483648

-- the token can be written: a text of characters, an int of 32 bits, a truth value
abbrev pub IsToken : Token → Type 0
IsToken (Text bytes) = IsUtf8 bytes
IsToken (Int n) = IsInt32 n
IsToken (Truth b) = ⊤

-- each token in a tree is one that can be written: a text of characters, an int of 32 bits, a truth value
abbrev mutual
  pub AreTokens : Tree → Type 0
  AreTokens (Node c cells) = CellsAreTokens cells

  pub CellsAreTokens : Cells → Type 0
  CellsAreTokens no_cells = ⊤
  CellsAreTokens (cell c cs) = CellIsTokens c × CellsAreTokens cs

  pub CellIsTokens : Cell → Type 0
  CellIsTokens (One t) = AreTokens t
  CellIsTokens (Many ts) = TreesAreTokens ts
  CellIsTokens Empty = ⊤
  CellIsTokens (Filled t) = AreTokens t
  CellIsTokens (Holds v) = IsToken v

  pub TreesAreTokens : Trees → Type 0
  TreesAreTokens no_trees = ⊤
  TreesAreTokens (tree t ts) = AreTokens t × TreesAreTokens ts

-- both or neither
abbrev pub bool_eq : Bool → Bool → Bool
bool_eq true b = b
bool_eq false b = not b

-- whether two tokens are one, and two trees
abbrev pub token_eq : Token → Token → Bool
token_eq (Text a) (Text b) = bytes_eq a b
token_eq (Int m) (Int n) = int_eq m n
token_eq (Truth a) (Truth b) = bool_eq a b
token_eq v w = false

abbrev mutual
  pub tree_eq : Tree → Tree → Bool
  tree_eq (Node c cells) (Node d others) = nat_eq c d && cells_eq cells others

  pub cells_eq : Cells → Cells → Bool
  cells_eq no_cells no_cells = true
  cells_eq (cell c cs) (cell d ds) = cell_eq c d && cells_eq cs ds
  cells_eq cs ds = false

  pub cell_eq : Cell → Cell → Bool
  cell_eq (One t) (One u) = tree_eq t u
  cell_eq (Many ts) (Many us) = trees_eq ts us
  cell_eq Empty Empty = true
  cell_eq (Filled t) (Filled u) = tree_eq t u
  cell_eq (Holds v) (Holds w) = token_eq v w
  cell_eq c d = false

  pub trees_eq : Trees → Trees → Bool
  trees_eq no_trees no_trees = true
  trees_eq (tree t ts) (tree u us) = tree_eq t u && trees_eq ts us
  trees_eq ts us = false

-- Trees as lists of marks, which give them back: by such a list a value of the model is told from others.
use Rattle.std.specs.Prelude.{◌≡◌, ◌⊎◌, ℕ, ℤ, Bool, false, List, [], ◌∷◌, nat_eq, if◌then◌else◌, refl}
use Rattle.std.specs.Coded.{Coded, code_by, coded×, coded⊎, coded_list, coded_bool, coded_ℕ, coded_ℤ}
use Rattle.std.proofs.Common.{ap, ◌∙◌, inl, inr}
use Rattle.at_model.specs.Trees.{Token, Text, Int, Truth, Tree, Node, Cells, no_cells, cell, Cell, One, Many, Empty, Filled, Holds, Trees, no_trees, tree}

abbrev pub TokenMark : Type 0
TokenMark = List ℕ ⊎ (ℤ ⊎ Bool)

abbrev pub token_mark : Token → TokenMark
token_mark (Text bytes) = inl bytes
token_mark (Int n) = inr (inl n)
token_mark (Truth b) = inr (inr b)

abbrev pub token_marked : TokenMark → Token
token_marked (inl bytes) = Text bytes
token_marked (inr (inl n)) = Int n
token_marked (inr (inr b)) = Truth b

pub token_back : (v : Token) → token_marked (token_mark v) ≡ v
token_back (Text bytes) = refl
token_back (Int n) = refl
token_back (Truth b) = refl

-- the number of a form, and the class and the token in it
abbrev pub Mark : Type 0
Mark = ℕ × (ℕ × TokenMark)

abbrev pub plain_mark : ℕ → Mark
plain_mark form = (form, (0, inr (inr false)))

-- the marks of a tree before those behind it
abbrev mutual
  pub tree_marks : Tree → List Mark → List Mark
  tree_marks (Node c cells) tail = (0, (c, inr (inr false))) ∷ cells_marks cells tail

  pub cells_marks : Cells → List Mark → List Mark
  cells_marks no_cells tail = plain_mark 1 ∷ tail
  cells_marks (cell c cs) tail = plain_mark 2 ∷ cell_marks c (cells_marks cs tail)

  pub cell_marks : Cell → List Mark → List Mark
  cell_marks (One t) tail = plain_mark 3 ∷ tree_marks t tail
  cell_marks (Many ts) tail = plain_mark 4 ∷ trees_marks ts tail
  cell_marks Empty tail = plain_mark 5 ∷ tail
  cell_marks (Filled t) tail = plain_mark 6 ∷ tree_marks t tail
  cell_marks (Holds v) tail = (7, (0, token_mark v)) ∷ tail

  pub trees_marks : Trees → List Mark → List Mark
  trees_marks no_trees tail = plain_mark 8 ∷ tail
  trees_marks (tree t ts) tail = plain_mark 9 ∷ tree_marks t (trees_marks ts tail)

-- the parts that are read so far, from the end
pub data Part : Type 0 where
  of_tree : Tree → Part
  of_cells : Cells → Part
  of_cell : Cell → Part
  of_trees : Trees → Part

abbrev pub as_tree : List Part → Tree
as_tree (of_tree t ∷ ps) = t
as_tree ps = Node 0 no_cells

abbrev pub as_cells : List Part → Cells
as_cells (of_cells cs ∷ ps) = cs
as_cells ps = no_cells

abbrev pub as_cell : List Part → Cell
as_cell (of_cell c ∷ ps) = c
as_cell ps = Empty

abbrev pub as_trees : List Part → Trees
as_trees (of_trees ts ∷ ps) = ts
as_trees ps = no_trees

abbrev pub behind : List Part → List Part
behind [] = []
behind (p ∷ ps) = ps

abbrev pub read : Mark → List Part → List Part
read m ps =
    if nat_eq m.0 0 then of_tree (Node m.1.0 (as_cells ps)) ∷ behind ps
    else (if nat_eq m.0 1 then of_cells no_cells ∷ ps
    else (if nat_eq m.0 2 then of_cells (cell (as_cell ps) (as_cells (behind ps))) ∷ behind (behind ps)
    else (if nat_eq m.0 3 then of_cell (One (as_tree ps)) ∷ behind ps
    else (if nat_eq m.0 4 then of_cell (Many (as_trees ps)) ∷ behind ps
    else (if nat_eq m.0 5 then of_cell Empty ∷ ps
    else (if nat_eq m.0 6 then of_cell (Filled (as_tree ps)) ∷ behind ps
    else (if nat_eq m.0 7 then of_cell (Holds (token_marked m.1.1)) ∷ ps
    else (if nat_eq m.0 8 then of_trees no_trees ∷ ps
    else of_trees (tree (as_tree ps) (as_trees (behind ps))) ∷ behind (behind ps)))))))))

abbrev pub read_all : List Mark → List Part
read_all [] = []
read_all (m ∷ ms) = read m (read_all ms)

mutual
  pub read_tree : (t : Tree) (tail : List Mark) → read_all (tree_marks t tail) ≡ of_tree t ∷ read_all tail
  read_tree (Node c cells) tail = ap (read (0, (c, inr (inr false)))) (read_cells cells tail)

  pub read_cells : (cs : Cells) (tail : List Mark) → read_all (cells_marks cs tail) ≡ of_cells cs ∷ read_all tail
  read_cells no_cells tail = refl
  read_cells (cell c cs) tail = ap (read (plain_mark 2)) (read_cell c (cells_marks cs tail) ∙ ap (λ ps. of_cell c ∷ ps) (read_cells cs tail))

  pub read_cell : (c : Cell) (tail : List Mark) → read_all (cell_marks c tail) ≡ of_cell c ∷ read_all tail
  read_cell (One t) tail = ap (read (plain_mark 3)) (read_tree t tail)
  read_cell (Many ts) tail = ap (read (plain_mark 4)) (read_trees ts tail)
  read_cell Empty tail = refl
  read_cell (Filled t) tail = ap (read (plain_mark 6)) (read_tree t tail)
  read_cell (Holds v) tail = ap (λ w. of_cell (Holds w) ∷ read_all tail) (token_back v)

  pub read_trees : (ts : Trees) (tail : List Mark) → read_all (trees_marks ts tail) ≡ of_trees ts ∷ read_all tail
  read_trees no_trees tail = refl
  read_trees (tree t ts) tail = ap (read (plain_mark 9)) (read_tree t (trees_marks ts tail) ∙ ap (λ ps. of_tree t ∷ ps) (read_trees ts tail))

abbrev pub cell_code : Coded Cell
cell_code =
    code_by
    (List Mark)
    (coded_list (coded× coded_ℕ (coded× coded_ℕ (coded⊎ (coded_list coded_ℕ) (coded⊎ coded_ℤ coded_bool)))))
    (λ c. cell_marks c [])
    (λ ms. as_cell (read_all ms))
    (λ c. ap as_cell (read_cell c []))

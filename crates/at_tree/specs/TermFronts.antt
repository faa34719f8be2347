-- Terms and cells whose text stands at the front of a text.
use Rattle.std.specs.Prelude.{◌≡◌, ℕ, List, ◌∷◌, ◌++◌}
use Rattle.at_model.specs.Terms.{Term, Cell, IsTermWithin, AreCellsWithin, IsCellWithin, term_text, cell_text, cell_texts, with_commas}
use Rattle.at_tree.specs.View.{to_cells}

-- it is a term of at most so many levels, and its text stands before the rest
abbrev pub IsTermFront : List ℕ → List ℕ → ℕ → Term → Type 0
IsTermFront text rest levels t = (text ≡ term_text t ++ rest) × IsTermWithin levels t

-- the same of a cell
abbrev pub IsCellFront : List ℕ → List ℕ → ℕ → Cell → Type 0
IsCellFront text rest levels c = (text ≡ cell_text c ++ rest) × IsCellWithin levels c

-- and of the cells of a term, with a parenthesis behind them
abbrev pub AreCellsFront : List ℕ → List ℕ → ℕ → List Cell → Type 0
AreCellsFront text rest levels cs = (text ≡ with_commas (cell_texts (to_cells cs)) ++ 41 ∷ rest) × AreCellsWithin levels (to_cells cs)

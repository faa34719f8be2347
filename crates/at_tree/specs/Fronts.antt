-- Trees and cells whose text stands at the front of a text.
use Rattle.std.specs.Prelude.{◌≡◌, ℕ, true, List, ◌∷◌, ◌++◌}
use Rattle.at_model.specs.Classes.{Classes, Component, Shape}
use Rattle.at_model.specs.Terms.{IsTermWithin, AreCellsWithin, IsCellWithin, term_of, cells_of, cell_of, written, tree_text, cell_text, cell_texts, with_commas}
use Rattle.at_model.specs.Trees.{Tree, Cells, Cell, conforms, cells_conform, cell_conforms, fixed_stand}

-- the tree conforms under the class, is a term of at most so many levels, and its text stands before the rest
abbrev pub IsTreeFront : Classes → List ℕ → List ℕ → ℕ → ℕ → Tree → Type 0
IsTreeFront classes text rest b levels t = (text ≡ tree_text classes t ++ rest) × (conforms classes t b ≡ true) × IsTermWithin levels (term_of classes t)

-- the same of what a component of the shape holds
abbrev pub IsCellFront : Classes → List ℕ → List ℕ → Shape → ℕ → Cell → Type 0
IsCellFront classes text rest shape levels c = (text ≡ cell_text (cell_of classes c) ++ rest) × (cell_conforms classes c shape ≡ true)
    × IsCellWithin levels (cell_of classes c)

-- and of the cells for components, with a parenthesis behind them: what is fixed stands in its components, and isn't written
abbrev pub AreCellsFront : Classes → List ℕ → List ℕ → List Component → ℕ → Cells → Type 0
AreCellsFront classes text rest parts levels cs =
    (text ≡ with_commas (cell_texts (written parts (cells_of classes cs))) ++ 41 ∷ rest) × (cells_conform classes cs parts ≡ true)
    × (fixed_stand parts cs ≡ true) × AreCellsWithin levels (written parts (cells_of classes cs))

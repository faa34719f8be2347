-- Which tree a term is written of.
use Rattle.std.specs.Prelude.{◌≡◌, ℕ, true, false, if◌then◌else◌, List, Option, None, Some, option_map, ⊤}
use Rattle.at_model.specs.Classes.{Classes, Component, Shape, free}
use Rattle.at_model.specs.Shaping.{cells_shaped, fixed_fit, names_classes, planted}
use Rattle.at_model.specs.Terms.{Term, Cells, term_of}
use Rattle.at_model.specs.Trees.{Tree, conforms, cell_conforms}
use Rattle.at_model.specs.Trees as tree
use Rattle.at_tree.specs.declared.tree.shaping.ShapeFault.{ShapeFault}
use Rattle.at_tree.specs.declared.tree.shaping.ShapeFault.TheVariants.{Class, Fit, Memory}

-- the tree conforms under the class and is written so
pub record IsShaped (classes : Classes) (t : Term) (b : ℕ) (u : Tree) : Type 0 where
  pub conforms : conforms classes u b ≡ true
  pub written : term_of classes u ≡ t

-- why there is no tree: a name that is not known, or else no conforming tree that is written so
abbrev pub IsMisshaped : Classes → Term → ℕ → ShapeFault → Type 0
IsMisshaped classes t b Class = names_classes classes t ≡ false
IsMisshaped classes t b Fit = (names_classes classes t ≡ true) × ((u : Tree) → ¬ (IsShaped classes t b u))
IsMisshaped classes t b Memory = ⊤

-- what is fixed, where it conforms to the shape
abbrev pub fixed_shaped : Classes → tree.Cell → Shape → Option tree.Cell
fixed_shaped classes d shape = if cell_conforms classes d shape then Some d else None

-- what the components hold: what is fixed in them, and in the others these cells of a term
abbrev pub parts_shaped : Classes → Cells → List Component → Option tree.Cells
parts_shaped classes cs ps = if fixed_fit classes ps then option_map (planted ps) (cells_shaped classes cs (free ps)) else None

-- there is none, where a cell or a tree doesn't fit
abbrev pub IsNoneAtFit : {A : Type 0} → Option A → ShapeFault → Type 0
IsNoneAtFit o Class = ⊥
IsNoneAtFit o Fit = o ≡ None
IsNoneAtFit o Memory = ⊤

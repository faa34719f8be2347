-- Which tree a term is: its names looked up, its cells laid against the components.
use Rattle.std.specs.Prelude.{ℕ, Bool, true, false, ◌&&◌, if◌then◌else◌, List, [], ◌∷◌, Option, Some, None, option_map, option_and_then}
use Rattle.at_model.specs.Classes.{Classes, Component, Shape, parts, free, fits, is_concrete, class_of_name}
use Rattle.at_model.specs.Classes as class
use Rattle.at_model.specs.Trees.{Tree, is_of_kind, cell_conforms}
use Rattle.at_model.specs.Trees as tree
use Rattle.at_model.specs.Terms.{Term, Cells, Cell, Terms, Node, no_cells, cell, One, Many, Empty, Holds, no_terms, term}

-- the name is that of a class which is not abstract
abbrev pub names_concrete_class : Classes → List ℕ → Bool
names_concrete_class classes name = elim (class_of_name classes name) [ None ↦ false | Some c ↦ is_concrete classes c ]

-- each name in the term is that of a class which is not abstract
abbrev mutual
  pub names_classes : Classes → Term → Bool
  names_classes classes (Node name cells) = names_concrete_class classes name && cells_name_classes classes cells

  pub cells_name_classes : Classes → Cells → Bool
  cells_name_classes classes no_cells = true
  cells_name_classes classes (cell c cs) = cell_names_classes classes c && cells_name_classes classes cs

  pub cell_names_classes : Classes → Cell → Bool
  cell_names_classes classes (One t) = names_classes classes t
  cell_names_classes classes (Many ts) = terms_name_classes classes ts
  cell_names_classes classes Empty = true
  cell_names_classes classes (Holds v) = true

  pub terms_name_classes : Classes → Terms → Bool
  terms_name_classes classes no_terms = true
  terms_name_classes classes (term t ts) = names_classes classes t && terms_name_classes classes ts

-- what is fixed conforms
abbrev pub fixed_fit : Classes → List Component → Bool
fixed_fit classes [] = true
fixed_fit classes (p ∷ ps) = elim p.fixed [ None ↦ true | Some d ↦ cell_conforms classes d p.shape ] && fixed_fit classes ps

-- what is fixed in its components, and these cells in the others
abbrev pub planted : List Component → tree.Cells → tree.Cells
planted [] ds = ds
planted (p ∷ ps) ds = elim p.fixed [
  | Some d ↦ tree.cell d (planted ps ds)
  | None ↦ elim ds [ tree.no_cells ↦ tree.no_cells | tree.cell d rest ↦ tree.cell d (planted ps rest) ]
]

-- the tree of the class asked, or of one below it, that the term writes, where there is one: what is fixed comes by itself
abbrev mutual
  pub shaped : Classes → Term → ℕ → Option Tree
  shaped classes (Node name cells) b =
      option_and_then (λ c.
      if fits classes c b && fixed_fit classes (parts classes c)
      then option_map (λ ds. tree.Node c (planted (parts classes c) ds)) (cells_shaped classes cells (free (parts classes c))) else None)
      (class_of_name classes name)

  pub cells_shaped : Classes → Cells → List Component → Option tree.Cells
  cells_shaped classes no_cells [] = Some tree.no_cells
  cells_shaped classes no_cells (p ∷ ps) = None
  cells_shaped classes (cell c cs) [] = None
  cells_shaped classes (cell c cs) (p ∷ ps) =
      option_and_then (λ d. option_map (λ ds. tree.cell d ds) (cells_shaped classes cs ps)) (cell_shaped classes c p.shape)

  pub cell_shaped : Classes → Cell → Shape → Option tree.Cell
  cell_shaped classes (One t) (class.One b) = option_map (λ u. tree.One u) (shaped classes t b)
  cell_shaped classes (One t) (class.Maybe b) = option_map (λ u. tree.Filled u) (shaped classes t b)
  cell_shaped classes (Many ts) (class.Many b) = option_map (λ us. tree.Many us) (terms_shaped classes ts b)
  cell_shaped classes Empty (class.Maybe b) = Some tree.Empty
  cell_shaped classes (Holds v) (class.Token kind) = if is_of_kind v kind then Some (tree.Holds v) else None
  cell_shaped classes c shape = None

  pub terms_shaped : Classes → Terms → ℕ → Option tree.Trees
  terms_shaped classes no_terms b = Some tree.no_trees
  terms_shaped classes (term t ts) b = option_and_then (λ u. option_map (λ us. tree.tree u us) (terms_shaped classes ts b)) (shaped classes t b)

-- A tree that conforms, is not too deep and has tokens that can be written is written as a term.
use Rattle.std.proofs.Common.{◌≡◌, ℕ, zero, suc, ◌-◌, ◌≤◌, Bool, true, false, not, ◌&&◌, if◌then◌else◌, nat_le, List, [], ◌∷◌, length, Option, Some, None, refl, subst, arith}
use Rattle.std.specs.List.{AllByRecursion, slice_get}
use Rattle.std.proofs.lemmas.Bool.{leb-true}
use Rattle.std.proofs.lemmas.List.Elements.{recursion_from_All}
use Rattle.at_model.specs.Names.{IsName}
use Rattle.at_model.specs.Classes.{Classes, Class, Component, Shape, AreSound, IsClassSound, is_fixed, fits, is_concrete, is_sub, parts, name_of}
use Rattle.at_model.specs.Classes as class
use Rattle.at_model.specs.Trees.{Tree, Cells, Cell, Trees, One, Many, Empty, Filled, Holds, no_cells, cell, no_trees, tree, conforms, cells_conform, cell_conforms, trees_conform, nodes, depth, cells_depth, cell_depth, trees_depth}
use Rattle.at_model.specs.Trees as trees
use Rattle.at_model.specs.Terms.{IsTerm, IsTermWithin, AreCellsWithin, IsCellWithin, AreTermsWithin, written, term_of, cells_of, cell_of, terms_of, max_depth}
use Rattle.at_model.specs.Terms as term
use Rattle.at_model.specs.Edits.{is_within_limits, max_nodes, tokens_short}
use Rattle.at_model.specs.Enduring.{AreTokens, CellsAreTokens, CellIsTokens, TreesAreTokens}
use Rattle.at_model.proofs.Options.{both}
use Rattle.at_model.proofs.of_texts.ConformingParts.{conforming_parts}

element : {A : Type 0} (P : A → Type 0) (xs : List A) (i : ℕ) (a : A) → AllByRecursion P xs → slice_get xs i ≡ Some a → P a
element P [] i a h e = absurd cc
element P (x ∷ xs) zero a h e = let same : x ≡ a = cc in subst P same h.0
element P (x ∷ xs) (suc i) a h e = element P xs i a h.1 e

module _ (classes : Classes) (sound : AreSound classes) where
  class_named : (c : ℕ) (o : Option Class) → slice_get classes c ≡ o → elim o as (λ _. Bool) [
    | None ↦ false
    | Some k ↦
        not k.is_abstract
  ] ≡ true → IsName (elim o as (λ _. List ℕ) [ None ↦ [] | Some k ↦ k.name ])
  class_named c None is e = absurd cc
  class_named c (Some k) is e = let s = element (IsClassSound (length classes)) classes c k (recursion_from_All (IsClassSound (length classes)) classes sound.each) is in s.name

  named : (c b : ℕ) → fits classes c b ≡ true → IsName (name_of classes c)
  named c b e = class_named c (slice_get classes c) refl (both (is_concrete classes c) (is_sub classes c b) e).0

  -- what is written of the cells is within the bound, where they are
  written_within : (d : ℕ) (ps : List Component) (cs : term.Cells) → AreCellsWithin d cs → AreCellsWithin d (written ps cs)
  written_within d [] cs h = h
  written_within d (p ∷ ps) term.no_cells h = tt
  written_within d (p ∷ ps) (term.cell c cs) h = by_fixed (is_fixed p) h.0 (written_within d ps cs h.1)
    where
      by_fixed : (b : Bool) → IsCellWithin d c → AreCellsWithin d (written ps cs) → AreCellsWithin d (if b then written ps cs else term.cell c (written ps cs))
      by_fixed true one rest = rest
      by_fixed false one rest = (one, rest)

  mutual
    pub tree_term : (d : ℕ) (t : Tree) (b : ℕ) → conforms classes t b ≡ true → depth t ≤ d → AreTokens t → IsTermWithin d (term_of classes t)
    tree_term d (trees.Node c cells) b e deep k =
        let (fit, below, stand) = conforming_parts classes c cells b e in
        (omega (arith, deep), named c b fit, written_within (d - 1) (parts classes c) (cells_of classes cells) (cells_term (d - 1) cells (parts classes c) below (omega (arith, deep)) k))

    cells_term : (d : ℕ) (cs : Cells) (ps : List Component) → cells_conform classes cs ps ≡ true → cells_depth cs ≤ d → CellsAreTokens cs → AreCellsWithin d (cells_of classes cs)
    cells_term d no_cells ps e deep k = tt
    cells_term d (cell c cs) [] e deep k = absurd cc
    cells_term d (cell c cs) (p ∷ ps) e deep k =
        let (one, rest) = both (cell_conforms classes c p.shape) (cells_conform classes cs ps) e in
        (cell_term d c p.shape one (omega (arith, deep)) k.0, cells_term d cs ps rest (omega (arith, deep)) k.1)

    cell_term : (d : ℕ) (c : Cell) (s : Shape) → cell_conforms classes c s ≡ true → cell_depth c ≤ d → CellIsTokens c → IsCellWithin d (cell_of classes c)
    cell_term d (One t) (class.One b) e deep k = tree_term d t b e deep k
    cell_term d (One t) (class.Many b) e deep k = absurd cc
    cell_term d (One t) (class.Maybe b) e deep k = absurd cc
    cell_term d (One t) (class.Token kind) e deep k = absurd cc
    cell_term d (Many ts) (class.One b) e deep k = absurd cc
    cell_term d (Many ts) (class.Many b) e deep k = trees_term d ts b e deep k
    cell_term d (Many ts) (class.Maybe b) e deep k = absurd cc
    cell_term d (Many ts) (class.Token kind) e deep k = absurd cc
    cell_term d Empty s e deep k = tt
    cell_term d (Filled t) (class.One b) e deep k = absurd cc
    cell_term d (Filled t) (class.Many b) e deep k = absurd cc
    cell_term d (Filled t) (class.Maybe b) e deep k = tree_term d t b e deep k
    cell_term d (Filled t) (class.Token kind) e deep k = absurd cc
    cell_term d (Holds v) s e deep k = k

    trees_term : (d : ℕ) (ts : Trees) (b : ℕ) → trees_conform classes ts b ≡ true → trees_depth ts ≤ d → TreesAreTokens ts → AreTermsWithin d (terms_of classes ts)
    trees_term d no_trees b e deep k = tt
    trees_term d (tree t ts) b e deep k =
        let (one, rest) = both (conforms classes t b) (trees_conform classes ts b) e in
        (tree_term d t b one (omega (arith, deep)) k.0, trees_term d ts b rest (omega (arith, deep)) k.1)

  pub written_as_term : (t : Tree) (b : ℕ) → conforms classes t b ≡ true → is_within_limits t ≡ true → AreTokens t → IsTerm (term_of classes t)
  written_as_term t b e within k =
      let (sizes, short) = both (nat_le (nodes t) max_nodes && nat_le (depth t) max_depth) (tokens_short t) within in
      let (few, deep) = both (nat_le (nodes t) max_nodes) (nat_le (depth t) max_depth) sizes in
      tree_term max_depth t b e (leb-true (depth t) max_depth deep) k

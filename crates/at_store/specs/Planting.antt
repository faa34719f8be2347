-- A tree that is planted in a memory of nodes.
use Rattle.std.specs.Prelude.{◌≡◌, ℕ, true, false, nat_eq, cond, List, [], ◌∷◌, ◌++◌, length, Option, Some, None, is_some}
use Rattle.at_model.specs.Trees.{Tree, Cells, Cell, One, Many, Filled, Node as branch, no_trees, tree, to_cells, from_cells, to_trees, cells_of, class_of}
use Rattle.at_model.specs.Edits.{changed_at}
use Rattle.at_store.specs.Numbers.{IsApart, path_in, relabel}
use Rattle.at_store.specs.Memory.{Form, Plain, List_of, Optional, Info, Kept, Place, Stored, class_in, with_numbers}

-- the nodes of the tree stand there under these numbers, which were free, with its classes; all else is as before
pub record IsPlanted (before after : ℕ → Option Info) (place : Place) (t numbers : Tree) : Type 0 where
  pub stored : Stored after place numbers
  pub apart : IsApart numbers
  pub fresh : (k : ℕ) → is_some (path_in k numbers) ≡ true → before k ≡ None
  pub rest : (k : ℕ) → is_some (path_in k numbers) ≡ false → after k ≡ before k
  pub classes : relabel (class_in after) numbers ≡ t

-- a node with one more component, and with one more child in a component
abbrev pub with_more : Kept → Option Info → Option Info
with_more c None = None
with_more c (Some i) = Some (record i { cells = i.cells ++ c ∷ [] })

abbrev pub with_kid : ℕ → ℕ → Option Info → Option Info
with_kid part k None = None
with_kid part k (Some i) = Some (record i { cells = changed_at (with_numbers (λ ns. ns ++ k ∷ [])) i.cells part })

-- the tree with one more component
abbrev pub added : Cell → Tree → Tree
added c t = branch (class_of t) (to_cells (from_cells (cells_of t) ++ c ∷ []))

-- a component of that form in which this tree alone stands
abbrev pub holding : Form → Tree → Cell
holding Plain t = One t
holding List_of t = Many (tree t no_trees)
holding Optional t = Filled t

-- What a step leaves: all as it was; a new node with no component; a node with one more component, and with one more child in one.
abbrev pub IsAsBefore : (before later : ℕ → Option Info) → Type 0
IsAsBefore before later = (k : ℕ) → later k ≡ before k

abbrev pub IsAdded : (node class : ℕ) → Place → (before later : ℕ → Option Info) → Type 0
IsAdded node class place before later = (before node ≡ None)
    × ((k : ℕ) → later k ≡ cond (nat_eq k node) (Some (record { class = class; up = place.0; index = place.1; cells = [] })) (before k))

abbrev pub IsPushed : (node : ℕ) → Kept → (before later : ℕ → Option Info) → Type 0
IsPushed node c before later = (k : ℕ) → later k ≡ cond (nat_eq k node) (with_more c (before k)) (before k)

abbrev pub IsPushedKid : (node part kid : ℕ) → (before later : ℕ → Option Info) → Type 0
IsPushedKid node part kid before later = (k : ℕ) → later k ≡ cond (nat_eq k node) (with_kid part kid (before k)) (before k)

-- What is planted below this node, which has so many components, gets one more, in which stands what that cell holds.
abbrev pub GainsCell : (node part : ℕ) → Cell → (before later : ℕ → Option Info) → Type 0
GainsCell node part c before later = (first : ℕ → Option Info) (place : Place) (t : Tree) (cells : Cells) → length (from_cells cells) ≡ part →
    IsPlanted first before place t (branch node cells) → (more : Cell) × IsPlanted first later place (added c t) (added more (branch node cells))

-- the same, where its last component is a list with so many elements: it gets one more element
abbrev pub GainsTree : (node part index : ℕ) → Tree → (before later : ℕ → Option Info) → Type 0
GainsTree node part index u before later = (first : ℕ → Option Info) (place : Place) (t : Tree) (cells : Cells) (us ws : List Tree)
    → length (from_cells cells) ≡ part → length (from_cells (cells_of t)) ≡ part → length us ≡ index → length ws ≡ index →
    IsPlanted first before place (added (Many (to_trees us)) t) (added (Many (to_trees ws)) (branch node cells)) →
    (w : Tree) × IsPlanted first later place (added (Many (to_trees (us ++ u ∷ []))) t) (added (Many (to_trees (ws ++ w ∷ []))) (branch node cells))

-- some tree is planted below this node still
abbrev pub StaysPlanted : (node part : ℕ) → (before later : ℕ → Option Info) → Type 0
StaysPlanted node part before later = (first : ℕ → Option Info) (place : Place) (t : Tree) (cells : Cells) → length (from_cells cells) ≡ part →
    IsPlanted first before place t (branch node cells) → (u : Tree) × (more : Cells) × IsPlanted first later place u (branch node more)

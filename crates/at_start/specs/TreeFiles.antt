-- Which tree a tree file gives, and by which fault it is refused.
use Rattle.std.specs.Prelude.{◌≡◌, ◌≢◌, ◌⊎◌, ℕ, true, false, List, [], ◌∷◌, ◌++◌}
use Rattle.at_model.specs.Classes.{Classes}
use Rattle.at_model.specs.Trees.{Tree, conforms}
use Rattle.at_model.specs.Terms.{Term, IsTerm, term_text, term_of}
use Rattle.at_model.specs.Edits.{is_within_nodes}
use Rattle.at_model.specs.Shaping.{names_classes}
use Rattle.at_tree.specs.Shape.{IsShaped}
use Rattle.at_start.specs.Files.{IsText, IsNoText, tree_bytes}
use Rattle.at_start.specs.declared.code.Code.{Code}
use Rattle.at_start.specs.declared.code.Code.TheVariants as code
use Rattle.at_text.specs.declared.fault.Failure.{Failure}
use Rattle.at_text.specs.declared.fault.Failure.TheVariants as failure

-- the file is the term's text, and at most one newline after it
abbrev pub IsTermFile : List ℕ → Term → Type 0
IsTermFile bytes t = IsTerm t × ((bytes ≡ term_text t) ⊎ (bytes ≡ term_text t ++ 10 ∷ []))

-- the text without the newline at its end, where one stands there
abbrev pub IsWithoutNewline : List ℕ → List ℕ → Type 0
IsWithoutNewline text inner = (text ≡ inner ++ 10 ∷ []) ⊎ ((text ≡ inner) × ((front : List ℕ) → text ≢ front ++ 10 ∷ []))

-- The file gives the tree, which may have so many nodes: its term is written for it, it conforms to the start class, and it is
-- within the limits.
pub record GivesTree (classes : Classes) (limit : ℕ) (bytes : List ℕ) (t : Tree) : Type 0 where
  pub text : IsText (tree_bytes limit) bytes
  pub written : IsTermFile bytes (term_of classes t)
  pub whole : conforms classes t 0 ≡ true
  pub within : is_within_nodes limit t ≡ true

-- The file is refused by the code: it is no text; it is no term; a name in its term is not that of a class of which there
-- are nodes; no conforming tree is written so; the tree is beyond the limits.
pub data RefusesTree (classes : Classes) (limit : ℕ) (bytes : List ℕ) : Code → Type 0 where
  no_text : (c : Code) → IsNoText (tree_bytes limit) bytes code.TreeLimit code.TreeSyntax c → RefusesTree classes limit bytes c
  no_term : IsText (tree_bytes limit) bytes → ((t : Term) → IsTermFile bytes t → ⊥) → RefusesTree classes limit bytes code.TreeSyntax
  no_class : (t : Term) → IsText (tree_bytes limit) bytes → IsTermFile bytes t → names_classes classes t ≡ false
      → RefusesTree classes limit bytes code.TreeClass
  no_fit : (t : Term) → IsText (tree_bytes limit) bytes → IsTermFile bytes t → names_classes classes t ≡ true → ((u : Tree) → ¬ (IsShaped classes t 0 u))
      → RefusesTree classes limit bytes code.TreeFit
  no_room : (u : Tree) → IsText (tree_bytes limit) bytes → IsTermFile bytes (term_of classes u) → conforms classes u 0 ≡ true → is_within_nodes limit u ≡ false
      → RefusesTree classes limit bytes code.TreeLimit

-- the fault is one by which the file is refused; of want of memory nothing is said
abbrev pub IsTreeFault : Classes → (limit : ℕ) → List ℕ → Failure Code → Type 0
IsTreeFault classes limit bytes (failure.For c) = RefusesTree classes limit bytes c
IsTreeFault classes limit bytes failure.Memory = Unit {0}

-- Which tree a text is written of.
use Rattle.std.specs.Prelude.{◌≡◌, ℕ, IfErr, IfOk, List, Result, Ok, Err, true, ⊤}
use Rattle.at_model.specs.Classes.{Classes}
use Rattle.at_model.specs.Terms.{Term, IsTerm, term_of, term_text, tree_text}
use Rattle.at_model.specs.Trees.{Tree, conforms}
use Rattle.at_tree.specs.Shape.{IsShaped, IsMisshaped}
use Rattle.at_tree.specs.Stops.{IsTermText, StopsAt}
use Rattle.at_class.specs.TreeView.{tree_view}
use Rattle.at_tree.specs.declared.fault.TermFault.{TermFault}
use Rattle.at_tree.specs.declared.fault.TermFault.TheVariants as term
use Rattle.at_class.specs.declared.tree.Tree.{Tree as TreeValue}
use Rattle.at_tree.specs.declared.tree.shaping.ShapeFault.{ShapeFault}
use Rattle.at_tree.specs.declared.tree.shaping.ShapeFault.TheVariants as shape
use Rattle.at_tree.specs.declared.tree.reading.ReadFault.{ReadFault}
use Rattle.at_tree.specs.declared.tree.reading.ReadFault.TheVariants.{Syntax, Class, Fit, Memory}

-- the text is that of the term
abbrev pub IsTermOf : List ℕ → Term → Type 0
IsTermOf text t = IsTerm t × (term_text t ≡ text)

-- the text is that of a term, and the tree conforms under the class and is written as that term
abbrev pub IsReadAs : Classes → List ℕ → ℕ → Tree → Type 0
IsReadAs classes text b u = (t : Term) × IsTermOf text t × IsShaped classes t b u

-- why there is no tree: the text is no term's, and stops being one at that place; or its term is written of none
abbrev pub IsUnread : Classes → List ℕ → ℕ → ReadFault → Type 0
IsUnread classes text b (Syntax place) = (IsTermText text → ⊥) × StopsAt IsTermText text place
IsUnread classes text b Class = (t : Term) × IsTermOf text t × IsMisshaped classes t b shape.Class
IsUnread classes text b Fit = (t : Term) × IsTermOf text t × IsMisshaped classes t b shape.Fit
IsUnread classes text b Memory = ⊤

-- this tree, or want of memory
abbrev pub ReadsTree : Result TreeValue ReadFault → Tree → Type 0
ReadsTree (Ok t) u = tree_view t ≡ u
ReadsTree (Err e) u = e ≡ Memory

-- What a reader of trees says of a text: what is read is the tree that it is written of; else there is no term, or no tree of it; and a
-- tree that is written as the text is the one that is read, unless memory runs out.
pub record ReadsTrees (classes : Classes) (text : List ℕ) (under : ℕ) (result : Result TreeValue ReadFault) : Type 0 where
  pub found : IfOk result (λ t. IsReadAs classes text under (tree_view t))
  pub refused : IfErr result (IsUnread classes text under)
  pub again : (u : Tree) → conforms classes u under ≡ true → IsTerm (term_of classes u) → tree_text classes u ≡ text → ReadsTree result u

-- what a fault of a term, and of its shape, is called of a tree's text
abbrev pub of_term : TermFault → ReadFault
of_term (term.Syntax place) = Syntax place
of_term term.Memory = Memory

abbrev pub of_shape : ShapeFault → ReadFault
of_shape shape.Class = Class
of_shape shape.Fit = Fit
of_shape shape.Memory = Memory

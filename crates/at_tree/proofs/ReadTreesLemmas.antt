-- A tree that was written as a term is read again as that tree.
use Rattle.std.proofs.Common.{◌≡◌, ◌==◌, ℕ, List, [], ◌∷◌, ◌++◌, Bool, true, false, length, refl, sym, ap, ◌∙◌, append-nil, arith, eqb-true}
use Rattle.at_model.specs.Classes.{Classes, AreSound}
use Rattle.at_model.specs.Shaping.{names_classes}
use Rattle.at_model.specs.Terms.{Term, IsTerm, max_depth, term_text, term_of, tree_text}
use Rattle.at_model.specs.Trees.{Tree, conforms}
use Rattle.at_model.proofs.of_texts.Shaped.{conforms_shaped}
use Rattle.at_tree.specs.Fronts.{IsTreeFront}
use Rattle.at_tree.specs.ReadTrees.{IsTermOf, IsReadAs, IsUnread, of_term, of_shape}
use Rattle.at_tree.specs.Reads.{StopsWith}
use Rattle.at_tree.specs.Shape.{IsShaped, IsMisshaped}
use Rattle.at_tree.specs.Stops.{IsTermText}
use Rattle.at_tree.specs.declared.fault.TermFault.{TermFault}
use Rattle.at_tree.specs.declared.fault.TermFault.TheVariants as term
use Rattle.at_tree.specs.declared.tree.reading.ReadFault.{ReadFault}
use Rattle.at_tree.specs.declared.tree.reading.ReadFault.TheVariants.{Syntax, Class, Fit, Memory}
use Rattle.at_tree.specs.declared.tree.shaping.ShapeFault.{ShapeFault}
use Rattle.at_tree.specs.declared.tree.shaping.ShapeFault.TheVariants as shape
use Rattle.at_tree.proofs.ShapeLaws.{one_tree}
use Rattle.at_tree.proofs.TextLaws.{none_begins_another}

-- a text that is refused as no term's is none
pub no_term : (classes : Classes) (text : List ℕ) (b : ℕ) (f : TermFault) → ((t : Term) → IsTerm t → term_text t ≡ text → f ≡ term.Memory) → StopsWith IsTermText text f → IsUnread classes text b (of_term f)
no_term classes text b (term.Syntax place) only stops = (none, stops) where
  none : IsTermText text → ⊥
  none (t, is, same) = let e : term.Syntax place ≡ term.Memory = only t is same in absurd cc
no_term classes text b term.Memory only stops = tt

pub no_tree : (classes : Classes) (text : List ℕ) (b : ℕ) (t : Term) (f : ShapeFault) → IsTermOf text t → IsMisshaped classes t b f → IsUnread classes text b (of_shape f)
no_tree classes text b t shape.Class is miss = (t, is, miss)
no_tree classes text b t shape.Fit is miss = (t, is, miss)
no_tree classes text b t shape.Memory is miss = tt

-- a text has one term
one_term : (t u : Term) (text : List ℕ) → IsTermOf text t → IsTermOf text u → t ≡ u
one_term t u text (is, same) (is', same') = (none_begins_another t u [] is is' (same' ∙ sym same ∙ sym (append-nil (term_text t)))).0

-- the tree that the text is written of is shaped from the text's term
shaped_of : (classes : Classes) (text : List ℕ) (b : ℕ) (u : Tree) (t : Term) → conforms classes u b ≡ true → IsTermOf text (term_of classes u) → IsTermOf text t → IsShaped classes t b u
shaped_of classes text b u t whole written is = record { conforms = whole; written = one_term (term_of classes u) t text written is }

pub again_found : (classes : Classes) → AreSound classes → (text : List ℕ) (b : ℕ) (u t : Tree) → conforms classes u b ≡ true → IsTermOf text (term_of classes u) → IsReadAs classes text b t → t ≡ u
again_found classes sound text b u t whole written (w, is, s) = one_tree classes sound t u b s.conforms whole (s.written ∙ one_term w (term_of classes u) text is written)

-- where there is no term, no tree was written as the text
pub again_no_term : (classes : Classes) (text : List ℕ) (b : ℕ) (u : Tree) (f : TermFault) → IsTermOf text (term_of classes u) → IsUnread classes text b (of_term f) → of_term f ≡ Memory
again_no_term classes text b u (term.Syntax place) written none = absurd (none.0 (term_of classes u, written.0, written.1))
again_no_term classes text b u term.Memory written none = refl

pub again_refused : (classes : Classes) → AreSound classes → (text : List ℕ) (b : ℕ) (u : Tree) (e : ReadFault) → conforms classes u b ≡ true → IsTermOf text (term_of classes u) → IsUnread classes text b e → e ≡ Memory
again_refused classes sound text b u (Syntax place) whole written none = absurd (none.0 (term_of classes u, written.0, written.1))
again_refused classes sound text b u Class whole written (t, is, unknown) =
    let s = shaped_of classes text b u t whole written is in
    let known = (conforms_shaped classes sound.distinct u b whole).1 in
    let same : true ≡ false = sym known ∙ ap (names_classes classes) s.written ∙ unknown in
    absurd cc
again_refused classes sound text b u Fit whole written (t, is, misfit) = absurd (misfit.1 u (shaped_of classes text b u t whole written is))
again_refused classes sound text b u Memory whole written none = refl

-- a tree whose text stands in front of nothing
pub read_whole : (classes : Classes) (text rest : List ℕ) (b : ℕ) (t : Tree) (empty : Bool) → IsTreeFront classes text rest b max_depth t → empty ≡ (length rest == 0) → empty ≡ true → IsReadAs classes text b t
read_whole classes text rest b t empty front is none =
    let end : rest ≡ [] = nothing rest (sym is ∙ none) in
    (term_of classes t, (front.2, sym (front.0 ∙ ap (λ ys. tree_text classes t ++ ys) end ∙ append-nil (tree_text classes t))), record { conforms = front.1; written = refl })
  where
    nothing : (rest : List ℕ) → (length rest == 0) ≡ true → rest ≡ []
    nothing [] e = refl
    nothing (x ∷ xs) e = absurd (omega (arith, eqb-true (length (x ∷ xs)) 0 e))

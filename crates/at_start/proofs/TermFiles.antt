-- A tree file without the newline at its end is the text of its term.
use Rattle.std.proofs.Common.{◌≡◌, ◌≢◌, ℕ, ◌++◌, List, [], ◌∷◌, refl, sym, ap, ◌∙◌, subst, append_assoc, arith, Option, Some, None, Bor, inl, inr}
use Rattle.std.specs.Option.{MatchOption, unwrap_or}
use Rattle.std.proofs.lemmas.List.{append_cancel_right}
use Rattle.at_model.specs.Classes.{Classes}
use Rattle.at_model.specs.Terms.{Term, Node, IsTerm, term_text, with_commas, cell_texts, term_of}
use Rattle.at_model.specs.Trees.{Tree}
use Rattle.at_tree.specs.ReadTrees.{IsReadAs, IsUnread}
use Rattle.at_tree.specs.declared.tree.reading.ReadFault.TheVariants as read
use Rattle.at_start.specs.Files.{IsText, tree_bytes}
use Rattle.at_start.specs.TreeFiles.{IsTermFile, IsWithoutNewline, RefusesTree, no_term, no_class, no_fit}
use Rattle.at_start.specs.declared.code.Code.TheVariants as code

abbrev last_or : ℕ → List ℕ → ℕ
last_or d [] = d
last_or d (x ∷ xs) = last_or x xs

last-snoc : (d : ℕ) (xs : List ℕ) (a : ℕ) → last_or d (xs ++ a ∷ []) ≡ a
last-snoc d [] a = refl
last-snoc d (x ∷ xs) a = last-snoc x xs a

closes : (t : Term) → (front : List ℕ) × (term_text t ≡ front ++ 41 ∷ [])
closes (Node name cells) = (name ++ 40 ∷ with_commas (cell_texts cells), sym (append_assoc name (40 ∷ with_commas (cell_texts cells)) (41 ∷ [])))

-- a term's text ends with its parenthesis
no_newline : (t : Term) (front : List ℕ) → term_text t ≡ front ++ 10 ∷ [] → ⊥
no_newline t front e =
    let c = closes t in
    let same : 41 ≡ 10 = sym (last-snoc 0 c.0 41) ∙ ap (last_or 0) (sym c.1 ∙ e) ∙ last-snoc 0 front 10 in
    absurd (omega (arith, same))

pub ends : (text : List ℕ) (o : Option (Bor (List ℕ))) (other : Bor (List ℕ)) → other.now ≡ text
    → MatchOption o ((front : List ℕ) → text ≢ front ++ 10 ∷ []) (λ x. text ≡ x.now ++ 10 ∷ []) → IsWithoutNewline text (unwrap_or o other).now
ends text None other same h = inr (sym same, h)
ends text (Some x) other same h = inl h

pub is_term_file : (text inner : List ℕ) (t : Term) → IsWithoutNewline text inner → IsTerm t → term_text t ≡ inner → IsTermFile text t
is_term_file text inner t (inl e) is same = (is, inr (e ∙ ap (λ x. x ++ 10 ∷ []) (sym same)))
is_term_file text inner t (inr h) is same = (is, inl (h.0 ∙ sym same))

-- the term of the file is the term of the inner text
pub inner_term : (text inner : List ℕ) (t : Term) → IsWithoutNewline text inner → IsTermFile text t → term_text t ≡ inner
inner_term text inner t (inl e) (is, inl same) = absurd (no_newline t inner (sym same ∙ e))
inner_term text inner t (inl e) (is, inr same) = append_cancel_right (term_text t) inner (10 ∷ []) (sym same ∙ e)
inner_term text inner t (inr h) (is, inl same) = sym same ∙ h.0
inner_term text inner t (inr h) (is, inr same) = absurd (h.1 (term_text t) same)

-- and the text of a term is what stands without the newline in its file
pub without_newline : (text : List ℕ) (t : Term) → IsTermFile text t → IsWithoutNewline text (term_text t)
without_newline text t (is, inl same) = inr (same, λ front e. no_newline t front (sym same ∙ e))
without_newline text t (is, inr same) = inl same

-- the tree that is read of the inner text is that of the file
pub is_tree_file : (classes : Classes) (text inner : List ℕ) (b : ℕ) (u : Tree) → IsWithoutNewline text inner → IsReadAs classes inner b u → IsTermFile text (term_of classes u)
is_tree_file classes text inner b u e (t, is, s) = is_term_file text inner (term_of classes u) e (subst IsTerm (sym s.written) is.0) (ap term_text s.written ∙ is.1)

-- where none is read of it, the file is refused
pub no_term_read : (classes : Classes) (limit : ℕ) (bytes inner : List ℕ) (place : ℕ) → IsText (tree_bytes limit) bytes → IsWithoutNewline bytes inner → IsUnread classes inner 0 (read.Syntax place) → RefusesTree classes limit bytes code.TreeSyntax
no_term_read classes limit bytes inner place text e none = no_term text (λ t h. none.0 (t, h.0, inner_term bytes inner t e h))

pub no_class_read : (classes : Classes) (limit : ℕ) (bytes inner : List ℕ) → IsText (tree_bytes limit) bytes → IsWithoutNewline bytes inner → IsUnread classes inner 0 read.Class → RefusesTree classes limit bytes code.TreeClass
no_class_read classes limit bytes inner text e (t, is, unknown) = no_class t text (is_term_file bytes inner t e is.0 is.1) unknown

pub no_fit_read : (classes : Classes) (limit : ℕ) (bytes inner : List ℕ) → IsText (tree_bytes limit) bytes → IsWithoutNewline bytes inner → IsUnread classes inner 0 read.Fit → RefusesTree classes limit bytes code.TreeFit
no_fit_read classes limit bytes inner text e (t, is, misfit) = no_fit t text (is_term_file bytes inner t e is.0 is.1) misfit.0 misfit.1

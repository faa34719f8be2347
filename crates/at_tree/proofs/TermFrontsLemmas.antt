-- Terms and cells that are taken from the front of a text.
use Rattle.std.proofs.Common.{◌≡◌, ℕ, ◌-◌, ◌<◌, ◌==◌, Bool, true, zero, suc, List, [], ◌∷◌, ◌++◌, length, map, refl, ap, sym, ◌∙◌, subst, append_assoc, append-nil, arith}
use Rattle.std.specs.Prelude.{Vec, String, string_bytes}
use Rattle.std.specs.Global.{Global}
use Rattle.std.specs.List.{AllByRecursion}
use Rattle.std.proofs.lemmas.Bool.{eqb-true}
use Rattle.std.proofs.lemmas.List.{length-append, length-map, map-append}
use Rattle.at_model.specs.Names.{IsName}
use Rattle.at_model.specs.Terms.{Term, Node, Cell, Many, IsTerm, max_depth, IsTermWithin, AreCellsWithin, IsCellWithin, AreTermsWithin, term_text, cell_text, cell_texts, term_texts, with_commas}
use Rattle.at_tree.specs.Separated.{separator}
use Rattle.at_tree.specs.TermFronts.{IsTermFront, IsCellFront, AreCellsFront}
use Rattle.at_tree.specs.View.{see_term, see_cell, term_view, cell_view, to_cells, to_terms}
use Rattle.at_tree.specs.declared.term.TermCell.{TermCell as CellValue}
use Rattle.at_tree.specs.declared.term.TermCell.TheViews.{roll-Term}
use Rattle.at_tree.specs.declared.term.TermCell.TheFolds.{fold-roll-Term}
use Rattle.at_tree.proofs.FrontsLemmas.{begun, longer}

pub made_term : (name : String Global) (cells : Vec CellValue Global) → term_view (roll-Term (record { name = name; cells = cells })) ≡ Node (string_bytes name) (to_cells (map cell_view cells.items))
made_term name cells = fold-roll-Term Cell Term see_cell see_term (record { name = name; cells = cells })

pub term_front : (text mid rest name : List ℕ) (levels : ℕ) (cs : List Cell) (t : Term) → 0 < levels → IsName name → text ≡ name ++ 40 ∷ mid → AreCellsFront mid rest (levels - 1) cs → t ≡ Node name (to_cells cs) → IsTermFront text rest levels t
term_front text mid rest name levels cs t some named begins inside is =
    subst (IsTermFront text rest levels) (sym is) (begun text name mid (with_commas (cell_texts (to_cells cs))) rest begins inside.0, (some, named, inside.1))

-- a term whose text stands in front of nothing
pub whole : (text rest : List ℕ) (t : Term) (empty : Bool) → IsTermFront text rest max_depth t → empty ≡ (length rest == 0) → empty ≡ true → IsTerm t × (term_text t ≡ text)
whole text rest t empty front is none =
    let end : rest ≡ [] = nothing rest (sym is ∙ none) in
    (front.1, sym (front.0 ∙ ap (λ ys. term_text t ++ ys) end ∙ append-nil (term_text t)))
  where
    nothing : (rest : List ℕ) → (length rest == 0) ≡ true → rest ≡ []
    nothing [] e = refl
    nothing (x ∷ xs) e = absurd (omega (arith, eqb-true (length (x ∷ xs)) 0 e))

-- some elements so far, with a comma between each two
module _ {X : Type 0} (written : X → List ℕ) (Fits : X → Type 0) where
  abbrev pub HasSome : List ℕ → List ℕ → List X → Type 0
  HasSome text rest xs = (0 < length xs) × (text ≡ with_commas (map written xs) ++ rest) × AllByRecursion Fits xs

  all-push : (xs : List X) (x : X) → AllByRecursion Fits xs → Fits x → AllByRecursion Fits (xs ++ x ∷ [])
  all-push [] x h k = (k, tt)
  all-push (y ∷ ys) x h k = (h.0, all-push ys x h.1 k)

  pub first_one : (text rest : List ℕ) (xs : List X) (x : X) → text ≡ written x ++ rest → Fits x → xs ≡ x ∷ [] → HasSome text rest xs
  first_one text rest xs x one fit is = subst (HasSome text rest) (sym is) (omega arith, one, (fit, tt))

  pub one_more : (text old mid new : List ℕ) (xs : List X) (x : X) → HasSome text old xs → old ≡ 44 ∷ mid → mid ≡ written x ++ new → Fits x → HasSome text new (xs ++ x ∷ [])
  one_more text old mid new xs x so_far comma one fit =
      let texts = longer text old mid new (map written xs) (written x) (length xs) (sym (length-map xs written)) so_far.1 (comma ∙ ap (λ zs. zs ++ mid) (sym (behind (length xs) so_far.0))) one in (
        omega (arith, length-append xs (x ∷ [])),
        texts ∙ ap (λ ys. with_commas ys ++ new) (sym (map-append written xs (x ∷ []))),
        all-push xs x so_far.2 fit,
      )
    where
      behind : (n : ℕ) → 0 < n → separator n ≡ 44 ∷ []
      behind zero h = absurd (omega (arith, h))
      behind (suc n) h = refl

pub shorter : (old mid new word : List ℕ) → old ≡ 44 ∷ mid → mid ≡ word ++ new → length new < length old
shorter old mid new word comma one = omega (arith, ap length comma, ap length one, length-append word new)

-- cells ---------------------------------------------------------------------------------------------------------------

abbrev pub HasCells : List ℕ → List ℕ → ℕ → List Cell → Type 0
HasCells text rest levels cs = HasSome cell_text (IsCellWithin levels) text rest cs

cells_written : (cs : List Cell) → map cell_text cs ≡ cell_texts (to_cells cs)
cells_written [] = refl
cells_written (c ∷ cs) = ap (λ ys. cell_text c ∷ ys) (cells_written cs)

cells_within : (levels : ℕ) (cs : List Cell) → AllByRecursion (IsCellWithin levels) cs → AreCellsWithin levels (to_cells cs)
cells_within levels [] h = tt
cells_within levels (c ∷ cs) h = (h.0, cells_within levels cs h.1)

pub no_cell : (text rest : List ℕ) (levels : ℕ) (cs : List Cell) → text ≡ 41 ∷ rest → cs ≡ [] → AreCellsFront text rest levels cs
no_cell text rest levels cs ends none = subst (AreCellsFront text rest levels) (sym none) (ends, tt)

pub all_cells : (text old new : List ℕ) (levels : ℕ) (cs : List Cell) → HasCells text old levels cs → old ≡ 41 ∷ new → AreCellsFront text new levels cs
all_cells text old new levels cs h ends = (h.1 ∙ ap (λ ys. with_commas (map cell_text cs) ++ ys) ends ∙ ap (λ ys. with_commas ys ++ 41 ∷ new) (cells_written cs), cells_within levels cs h.2)

-- the terms of a list -------------------------------------------------------------------------------------------------

abbrev pub HasTerms : List ℕ → List ℕ → ℕ → List Term → Type 0
HasTerms text rest levels ts = HasSome term_text (IsTermWithin levels) text rest ts

terms_written : (ts : List Term) → map term_text ts ≡ term_texts (to_terms ts)
terms_written [] = refl
terms_written (t ∷ ts) = ap (λ ys. term_text t ∷ ys) (terms_written ts)

terms_within : (levels : ℕ) (ts : List Term) → AllByRecursion (IsTermWithin levels) ts → AreTermsWithin levels (to_terms ts)
terms_within levels [] h = tt
terms_within levels (t ∷ ts) h = (h.0, terms_within levels ts h.1)

pub no_term : (text mid rest : List ℕ) (levels : ℕ) (ts : List Term) → text ≡ 91 ∷ mid → mid ≡ 93 ∷ rest → ts ≡ [] → IsCellFront text rest levels (Many (to_terms ts))
no_term text mid rest levels ts begins ends none = subst (λ (us : List Term). IsCellFront text rest levels (Many (to_terms us))) (sym none) (begins ∙ ap (λ ys. 91 ∷ ys) ends, tt)

-- the bracket, and terms so far
abbrev pub HasList : List ℕ → List ℕ → ℕ → List Term → Type 0
HasList text rest levels ts = (mid : List ℕ) × (text ≡ 91 ∷ mid) × HasTerms mid rest levels ts

pub first_term : (text mid rest : List ℕ) (levels : ℕ) (ts : List Term) (t : Term) → text ≡ 91 ∷ mid → IsTermFront mid rest levels t → ts ≡ t ∷ [] → HasList text rest levels ts
first_term text mid rest levels ts t begins one is = (mid, begins, first_one term_text (IsTermWithin levels) mid rest ts t one.0 one.1 is)

pub one_term_more : (text old mid new : List ℕ) (levels : ℕ) (ts : List Term) (t : Term) → HasList text old levels ts → old ≡ 44 ∷ mid → IsTermFront mid new levels t → HasList text new levels (ts ++ t ∷ [])
one_term_more text old mid new levels ts t (from, begins, so_far) comma one = (from, begins, one_more term_text (IsTermWithin levels) from old mid new ts t so_far comma one.0 one.1)

pub all_terms : (text old new : List ℕ) (levels : ℕ) (ts : List Term) → HasList text old levels ts → old ≡ 93 ∷ new → IsCellFront text new levels (Many (to_terms ts))
all_terms text old new levels ts (from, begins, h) ends =
    let texts = with_commas (term_texts (to_terms ts)) in (
      begins ∙ ap (λ ys. 91 ∷ ys) (h.1 ∙ ap (λ ys. with_commas (map term_text ts) ++ ys) ends ∙ ap (λ ys. with_commas ys ++ 93 ∷ new) (terms_written ts) ∙ sym (append_assoc texts (93 ∷ []) new)),
      terms_within levels ts h.2,
    )

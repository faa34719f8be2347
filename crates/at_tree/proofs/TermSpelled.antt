-- The text that a partial term has taken.
use Rattle.std.proofs.Common.{◌≡◌, ℕ, Bool, true, false, List, [], ◌∷◌, ◌++◌, Option, Some, None, refl, ap, append_assoc, map}
use Rattle.std.specs.List.{flat_map}
use Rattle.std.specs.Fmt.{decimal}
use Rattle.at_model.specs.Texts.{escaped}
use Rattle.at_model.specs.Terms.{Term, Cell, term_text, cell_texts, term_texts, cell_text, with_commas}
use Rattle.at_tree.specs.View.{to_cells, to_terms}
use Rattle.at_tree.specs.Partial.{Level, Place, Start, InWord, Dash, Digits, InText, Escape, Whole, Item, Done, Partial}

abbrev pub before_cells : List Cell → List ℕ
before_cells cs = flat_map (λ c. cell_text c ++ 44 ∷ []) cs

abbrev pub before_terms : List Term → List ℕ
before_terms ts = flat_map (λ t. term_text t ++ 44 ∷ []) ts

abbrev pub before_items : Option (List Term) → List ℕ
before_items None = []
before_items (Some ts) = 91 ∷ before_terms ts

abbrev pub opening : Level → List ℕ
opening f = f.name ++ 40 ∷ (before_cells f.cells ++ before_items f.items)

abbrev pub openings : List Level → List ℕ
openings [] = []
openings (f ∷ fs) = openings fs ++ opening f

abbrev pub number_text : Bool → ℕ → List ℕ
number_text false n = decimal n
number_text true n = 45 ∷ decimal n

abbrev pub place_text : Place → List ℕ
place_text Start = []
place_text (InWord word) = word
place_text Dash = 45 ∷ []
place_text (Digits minus n) = number_text minus n
place_text (InText text) = 34 ∷ flat_map escaped text
place_text (Escape text) = 34 ∷ (flat_map escaped text ++ 92 ∷ [])
place_text (Whole x) = cell_text x
place_text (Item t) = term_text t
place_text (Done t) = term_text t

abbrev pub spelled : Partial → List ℕ
spelled p = openings p.levels ++ place_text p.place

-- commas
pub with_commas_last : (xs : List (List ℕ)) (x : List ℕ) → with_commas (xs ++ x ∷ []) ≡ flat_map (λ y. y ++ 44 ∷ []) xs ++ x
with_commas_last [] x = refl
with_commas_last (y ∷ []) x = simp append_assoc
with_commas_last (y ∷ z ∷ zs) x = rw (with_commas_last (z ∷ zs) x) (simp append_assoc)

pub cell_texts_of : (cs : List Cell) (x : Cell) → with_commas (cell_texts (to_cells (cs ++ x ∷ []))) ≡ before_cells cs ++ cell_text x
cell_texts_of cs x = rw (lists cs x, with_commas_last (map cell_text cs) (cell_text x), flat cs) refl
  where
    lists : (cs : List Cell) (x : Cell) → cell_texts (to_cells (cs ++ x ∷ [])) ≡ map cell_text cs ++ cell_text x ∷ []
    lists [] x = refl
    lists (c ∷ cs) x = ap (λ ys. cell_text c ∷ ys) (lists cs x)

    flat : (cs : List Cell) → flat_map (λ y. y ++ 44 ∷ []) (map cell_text cs) ≡ before_cells cs
    flat [] = refl
    flat (c ∷ cs) = ap (λ ys. (cell_text c ++ 44 ∷ []) ++ ys) (flat cs)

pub term_texts_of : (cs : List Term) (x : Term) → with_commas (term_texts (to_terms (cs ++ x ∷ []))) ≡ before_terms cs ++ term_text x
term_texts_of cs x = rw (lists cs x, with_commas_last (map term_text cs) (term_text x), flat cs) refl
  where
    lists : (cs : List Term) (x : Term) → term_texts (to_terms (cs ++ x ∷ [])) ≡ map term_text cs ++ term_text x ∷ []
    lists [] x = refl
    lists (c ∷ cs) x = ap (λ ys. term_text c ∷ ys) (lists cs x)

    flat : (cs : List Term) → flat_map (λ y. y ++ 44 ∷ []) (map term_text cs) ≡ before_terms cs
    flat [] = refl
    flat (c ∷ cs) = ap (λ ys. (term_text c ++ 44 ∷ []) ++ ys) (flat cs)

-- What is left of a list, one for each component, where those of fixed components are left out.
use Rattle.std.proofs.Common.{◌≡◌, ℕ, ◌+◌, ◌<◌, ◌≤◌, suc, Bool, true, false, if◌then◌else◌, List, [], ◌∷◌, ◌++◌, length, take, get_or, map, refl, ap, sym, ◌∙◌, subst, arith, add-one, length-take-le}
use Rattle.std.specs.List.{slice_get, flat_map}
use Rattle.std.specs.Prelude.{reverse, option_and_then, option_map, zero, Option, Some, None}
use Rattle.std.proofs.Math.Seq.{take-suc}
use Rattle.std.proofs.lemmas.List.{map-append, length-map}
use Rattle.std.proofs.lemmas.Option.{slice_get_past, slice_get_read, slice_get-map}
use Rattle.at_model.specs.Classes.{Classes, Class, Component, is_fixed, parts, chain, chain_within, own_of}
use Rattle.at_model.specs.Terms.{Cells, no_cells, cell, cell_text, cell_texts, written}
use Rattle.at_class.specs.View.{part_view}
use Rattle.at_class.specs.declared.part.Part.{Part}
use Rattle.at_tree.specs.Fixed.{is_fixed_at}

abbrev pub unfixed : {A : Type 0} → List Component → List A → List A
unfixed [] xs = xs
unfixed (p ∷ ps) [] = []
unfixed (p ∷ ps) (x ∷ xs) = if is_fixed p then unfixed ps xs else x ∷ unfixed ps xs

pub unfixed-none : {A : Type 0} (ps : List Component) → unfixed {A = A} ps [] ≡ []
unfixed-none [] = refl
unfixed-none (p ∷ ps) = refl

-- with one more, whose component is fixed, or isn't
pub unfixed-same : {A : Type 0} (ps : List Component) (xs : List A) (x : A) → is_fixed_at ps (length xs) ≡ true → unfixed ps (xs ++ x ∷ []) ≡ unfixed ps xs
unfixed-same [] xs x e = absurd cc
unfixed-same (p ∷ ps) [] x e = ap (λ b. if b then unfixed ps [] else x ∷ unfixed ps []) e ∙ unfixed-none ps
unfixed-same (p ∷ ps) (y ∷ ys) x e = ap (λ zs. if is_fixed p then zs else y ∷ zs) (unfixed-same ps ys x e)

pub unfixed-more : {A : Type 0} (ps : List Component) (xs : List A) (x : A) → is_fixed_at ps (length xs) ≡ false → unfixed ps (xs ++ x ∷ []) ≡ unfixed ps xs ++ x ∷ []
unfixed-more [] xs x e = refl
unfixed-more (p ∷ ps) [] x e = ap (λ b. if b then unfixed ps [] else x ∷ unfixed ps []) e ∙ ap (λ zs. x ∷ zs) (unfixed-none ps)
unfixed-more (p ∷ ps) (y ∷ ys) x e = by_fixed (is_fixed p) (unfixed-more ps ys x e)
  where
    by_fixed : (b : Bool) → unfixed ps (ys ++ x ∷ []) ≡ unfixed ps ys ++ x ∷ []
        → (if b then unfixed ps (ys ++ x ∷ []) else y ∷ unfixed ps (ys ++ x ∷ [])) ≡ (if b then unfixed ps ys else y ∷ unfixed ps ys) ++ x ∷ []
    by_fixed true more = more
    by_fixed false more = ap (λ zs. y ∷ zs) more

-- the texts of the cells that are written are those of all, but for what is fixed
pub written_texts : (ps : List Component) (cs : Cells) → cell_texts (written ps cs) ≡ unfixed ps (cell_texts cs)
written_texts [] cs = refl
written_texts (p ∷ ps) no_cells = refl
written_texts (p ∷ ps) (cell c cs) = by_fixed (is_fixed p) (written_texts ps cs)
  where
    by_fixed : (b : Bool) → cell_texts (written ps cs) ≡ unfixed ps (cell_texts cs)
        → cell_texts (if b then written ps cs else cell c (written ps cs)) ≡ (if b then unfixed ps (cell_texts cs) else cell_text c ∷ unfixed ps (cell_texts cs))
    by_fixed true more = more
    by_fixed false more = ap (λ ys. cell_text c ∷ ys) more

-- the component at that position, as a list shows it
pub component_at : (ps : List Part) (i : ℕ) (p : Part) → i < length ps → p ≡ get_or ps i p → slice_get (map part_view ps) i ≡ Some (part_view p)
component_at ps i p less is = slice_get-map part_view ps i ∙ ap (option_map part_view) (slice_get_read ps (length ps) i p refl less is)

-- the first so many -------------------------------------------------------------------------------------------------

abbrev pub first_unfixed : {A B : Type 0} → List Component → (A → B) → List A → ℕ → List B
first_unfixed ps f xs i = unfixed ps (map f (take i xs))

one_further : {A B : Type 0} (f : A → B) (xs : List A) (i : ℕ) (x : A) → i < length xs → x ≡ get_or xs i x → map f (take (i + 1) xs) ≡ map f (take i xs) ++ f x ∷ []
one_further f xs i x less is =
    let e : take (i + 1) xs ≡ take i xs ++ x ∷ [] = rw (add-one, take-suc xs i x less, ← is) refl in ap (map f) e ∙ map-append f (take i xs) (x ∷ [])

so_many : {A B : Type 0} (f : A → B) (xs : List A) (i : ℕ) → i < length xs → length (map f (take i xs)) ≡ i
so_many f xs i less = simp length-map (length-take-le i xs (omega (arith, less)))

pub first_unfixed-same : {A B : Type 0} (ps : List Component) (f : A → B) (xs : List A) (i : ℕ) (x : A) → i < length xs → x ≡ get_or xs i x → is_fixed_at ps i ≡ true
    → first_unfixed ps f xs (i + 1) ≡ first_unfixed ps f xs i
first_unfixed-same ps f xs i x less is fixed =
    ap (unfixed ps) (one_further f xs i x less is) ∙ unfixed-same ps (map f (take i xs)) (f x) (ap (is_fixed_at ps) (so_many f xs i less) ∙ fixed)

pub first_unfixed-more : {A B : Type 0} (ps : List Component) (f : A → B) (xs : List A) (i : ℕ) (x : A) → i < length xs → x ≡ get_or xs i x → is_fixed_at ps i ≡ false
    → first_unfixed ps f xs (i + 1) ≡ first_unfixed ps f xs i ++ f x ∷ []
first_unfixed-more ps f xs i x less is free =
    ap (unfixed ps) (one_further f xs i x less is) ∙ unfixed-more ps (map f (take i xs)) (f x) (ap (is_fixed_at ps) (so_many f xs i less) ∙ free)

-- a class that isn't there has no components
none_above : (n : ℕ) (classes : Classes) → chain_within n classes None ≡ []
none_above zero classes = refl
none_above (suc n) classes = refl

pub no_parts : (classes : Classes) (c : ℕ) → length classes ≤ c → parts classes c ≡ []
unfolding chain
no_parts classes c past = alone (length classes)
  where
    nothing : slice_get classes c ≡ None
    nothing = slice_get_past classes c past

    alone : (n : ℕ) → flat_map (own_of classes) (reverse (chain_within n classes (Some c))) ≡ []
    alone zero = refl
    alone (suc n) =
        ap (λ (o : Option Class). flat_map (own_of classes) (reverse (c ∷ chain_within n classes (option_and_then (λ k. k.parent) o)))) nothing
        ∙ ap (λ cs. flat_map (own_of classes) (reverse (c ∷ cs))) (none_above n classes)
        ∙ ap (λ (o : Option Class). elim o as (λ _. List Component) [ None ↦ [] | Some k ↦ k.own ] ++ []) nothing

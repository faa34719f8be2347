-- Loops over classes and components, by what is still to come.
use Rattle.std.proofs.Common.{◌≡◌, ◌∙◌, ℕ, zero, suc, ◌+◌, ◌<◌, ◌≤◌, true, false, List, [], ◌∷◌, ◌++◌, length, map, drop, get_or, filter_map, Option, Some, None, is_some, refl, sym, ap, subst, add-one, append-nil, append_assoc, arith, true≢false}
use Rattle.std.proofs.Math.Seq.{drop-cons}
use Rattle.std.proofs.lemmas.List.{drop_all}
use Rattle.std.proofs.lemmas.List.Elements.{filter_map-append}
use Rattle.std.specs.Option.{option_or}
use Rattle.at_model.specs.Classes.{Class, Classes, parts}
use Rattle.at_model.specs.Declarations.{first_given}
use Rattle.at_java.specs.Aliases.{Alias}
use Rattle.at_start.specs.Lists.{alias_of, aliases_from}

-- one is in front of those behind it
before_rest : {A : Type 0} (xs : List A) (i : ℕ) → i < length xs → (x : A) × (drop i xs ≡ x ∷ drop (suc i) xs)
before_rest [] i less = absurd (omega (arith, less))
before_rest (x ∷ xs) zero less = (x, refl)
before_rest (x ∷ xs) (suc i) less = before_rest xs i (omega (arith, less))

next_there : {A : Type 0} (xs : List A) (i : ℕ) → i < length xs → (x : A) × (drop i xs ≡ x ∷ drop (i + 1) xs)
next_there xs i less = subst (λ (n : ℕ). (x : _) × (drop i xs ≡ x ∷ drop n xs)) (sym (add-one i)) (before_rest xs i less)

-- ---- the first class that has something

module _ {A B : Type 0} (g : ℕ → Option B) where
  abbrev pub first_from : ℕ → List A → Option B
  first_from = first_given (λ c k. g c)

  pub not_here : (xs : List A) (i : ℕ) → i < length xs → is_some (g i) ≡ false → first_from i (drop i xs) ≡ first_from (i + 1) (drop (i + 1) xs)
  not_here xs i less none = ap (first_from i) (next_there xs i less).1 ∙ by (g i) none
    where
      by : (o : Option B) → is_some o ≡ false → option_or o (first_from (i + 1) (drop (i + 1) xs)) ≡ first_from (i + 1) (drop (i + 1) xs)
      by None is = refl
      by (Some b) is = absurd (true≢false is)

  pub found_here : (xs : List A) (i : ℕ) → i < length xs → is_some (g i) ≡ true → is_some (first_from i (drop i xs)) ≡ true
  found_here xs i less some = ap (λ ys. is_some (first_from i ys)) (next_there xs i less).1 ∙ by (g i) some
    where
      by : (o : Option B) → is_some o ≡ true → is_some (option_or o (first_from (i + 1) (drop (i + 1) xs))) ≡ true
      by (Some b) is = refl
      by None is = absurd (true≢false (sym is))

  pub nowhere : (xs : List A) (i : ℕ) → length xs ≤ i → is_some (first_from i (drop i xs)) ≡ false
  nowhere xs i past = ap (λ ys. is_some (first_from i ys)) (drop_all i xs past)

-- ---- what classes give, one after the other

module _ {A : Type 0} (from : ℕ → Classes → List A) (classes : Classes) (i : ℕ) (before : List A) where
  -- one more
  pub next_class : (after part zs : List A) → i < length classes
      → ((k : Class) (ks : Classes) → from i (k ∷ ks) ≡ part ++ from (i + 1) ks) → after ≡ before ++ part
      → before ++ from i (drop i classes) ≡ zs → after ++ from (i + 1) (drop (i + 1) classes) ≡ zs
  next_class after part zs less law new so_far =
      let rest = from (i + 1) (drop (i + 1) classes) in
      let there = next_there classes i less in
      ap (λ xs. xs ++ rest) new ∙ append_assoc before part rest
      ∙ ap (λ xs. before ++ xs) (sym (law there.0 (drop (i + 1) classes)))
      ∙ ap (λ ks. before ++ from i ks) (sym there.1) ∙ so_far

  -- none is left
  pub none_left : (zs : List A) → length classes ≤ i → from i [] ≡ [] → before ++ from i (drop i classes) ≡ zs
      → before ≡ zs
  none_left zs past none so_far =
      sym (ap (λ ks. before ++ from i ks) (drop_all i classes past) ∙ ap (λ xs. before ++ xs) none ∙ append-nil before)
      ∙ so_far

-- ---- short names

-- those of one class are added
pub one_class : (classes : Classes) (i : ℕ) (before after zs : List Alias) → i < length classes
    → after ≡ before ++ filter_map (alias_of classes) (parts classes i) → before ++ aliases_from classes i (drop i classes) ≡ zs
    → after ++ aliases_from classes (i + 1) (drop (i + 1) classes) ≡ zs
one_class classes i before after zs less is so_far =
    let rest = aliases_from classes (i + 1) (drop (i + 1) classes) in
    ap (λ xs. xs ++ rest) is ∙ append_assoc before (filter_map (alias_of classes) (parts classes i)) rest
    ∙ ap (λ ks. before ++ aliases_from classes i ks) (sym (next_there classes i less).1) ∙ so_far

pub no_class : (classes : Classes) (i : ℕ) (before zs : List Alias) → length classes ≤ i → before ++ aliases_from classes i (drop i classes) ≡ zs → before ≡ zs
no_class classes i before zs past so_far =
    sym (ap (λ ks. before ++ aliases_from classes i ks) (drop_all i classes past) ∙ append-nil before) ∙ so_far

module _ {X C A : Type 0} (view : X → C) (f : C → Option A) where
  -- that of one component is added, if it has one
  pub one_part : (xs : List X) (i : ℕ) (x : X) (before after zs : List A) → i < length xs → x ≡ get_or xs i x
      → after ≡ before ++ filter_map f (view x ∷ []) → before ++ filter_map f (map view (drop i xs)) ≡ zs
      → after ++ filter_map f (map view (drop (i + 1) xs)) ≡ zs
  one_part xs i x before after zs less is new so_far =
      let rest = map view (drop (suc i) xs) in
      let here : drop i xs ≡ x ∷ drop (suc i) xs = drop-cons xs i x less ∙ ap (λ y. y ∷ drop (suc i) xs) (sym is) in
      rw (new, add-one) (append_assoc before (filter_map f (view x ∷ [])) (filter_map f rest)
      ∙ ap (λ as'. before ++ as') (sym (filter_map-append f (view x ∷ []) rest)) ∙ ap (λ ys. before ++ filter_map f (map view ys)) (sym here) ∙ so_far)

  pub no_part : (xs : List X) (i : ℕ) (before zs : List A) → length xs ≤ i → before ++ filter_map f (map view (drop i xs)) ≡ zs → before ≡ zs
  no_part xs i before zs past so_far =
      sym (ap (λ ys. before ++ filter_map f (map view ys)) (drop_all i xs past) ∙ append-nil before) ∙ so_far

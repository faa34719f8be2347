-- Which class a name names, by whichever list of names.
use Rattle.std.proofs.Common.{◌≡◌, ℕ, ◌+◌, ◌<◌, List, [], ◌∷◌, length, map, take, get_or, refl, ap, sym, ◌∙◌, arith, Option, Some, None, suc, zero, add-zero, true≢false}
use Rattle.std.specs.Prelude.{Bool, true, false, ◌||◌, cond, position, IfSome, String, string_bytes}
use Rattle.std.specs.List.{list_any, position_from}
use Rattle.std.specs.Str.{bytes_eq}
use Rattle.std.proofs.lemmas.List.Quantifiers.{position-Some}
use Rattle.std.proofs.lemmas.Iterator.Adapters.{position_from-zero}
use Rattle.at_model.specs.Classes.{Class, Classes, class_of_name}
use Rattle.at_model.specs.Declarations.{Declarations, class_named, class_by, classes_of, unknown_class, superclass_circle, component_twice, over_limit}
use Rattle.at_grammar.specs.declared.syntax.ClassDecl.{ClassDecl}
use Rattle.at_class.specs.View.{named_in}
use Rattle.at_class.specs.Grammar.{declaration_view, declarations_view}
use Rattle.at_class.specs.Checks.{unknown_by, circle_in, twice_in, over_in, parts_twice}

position_from-map : {A B : Type 0} (p : B → Bool) (f : A → B) (i : ℕ) (xs : List A) → position_from p i (map f xs) ≡ position_from (λ x. p (f x)) i xs
position_from-map p f i [] = refl
position_from-map p f i (x ∷ xs) = ap (λ r. cond (p (f x)) (Some i) r) (position_from-map p f (i + 1) xs)

pub position-map : {A B : Type 0} (p : B → Bool) (f : A → B) (xs : List A) → position p (map f xs) ≡ position (λ x. p (f x)) xs
position-map p f xs = position_from-zero p (map f xs) ∙ position_from-map p f 0 xs ∙ sym (position_from-zero (λ x. p (f x)) xs)

position_from-at : {A : Type 0} (p : A → Bool) (i : ℕ) (xs : List A) (k : ℕ) (d : A) → k < length xs → list_any p (take k xs) ≡ false → p (get_or xs k d) ≡ true → position_from p i xs ≡ Some (i + k)
position_from-at p i [] k d less none here = absurd (omega arith)
position_from-at p i (x ∷ xs) zero d less none here = rw here (ap Some (sym (add-zero i)))
position_from-at p i (x ∷ xs) (suc k) d less none here =
    by (p x) refl (λ rest. position_from-at p (i + 1) xs k d (omega arith) rest here)
  where
    by : (b : Bool) → p x ≡ b → (list_any p (take k xs) ≡ false → position_from p (i + 1) xs ≡ Some ((i + 1) + k)) → cond (p x) (Some i) (position_from p (i + 1) xs) ≡ Some (i + suc k)
    by true e go = absurd (true≢false (sym (ap (λ b. b || list_any p (take k xs)) e) ∙ none))
    by false e go =
        let rest : list_any p (take k xs) ≡ false = sym (ap (λ b. b || list_any p (take k xs)) e) ∙ none in
        let n : (i + 1) + k ≡ i + suc k = omega arith in
        rw e (go rest ∙ ap Some n)

-- the first that passes is at k
pub position-at : {A : Type 0} (p : A → Bool) (xs : List A) (k : ℕ) (d : A) → k < length xs → list_any p (take k xs) ≡ false → p (get_or xs k d) ≡ true → position p xs ≡ Some k
position-at p xs k d less none here =
    let n : 0 + k ≡ k = omega arith in position_from-zero p xs ∙ position_from-at p 0 xs k d less none here ∙ ap Some n

pub position-within : {A : Type 0} (p : A → Bool) (xs : List A) → IfSome (position p xs) (λ k. k < length xs)
position-within p [] = tt
position-within p (x ∷ xs) = by (position p (x ∷ xs)) refl
  where
    by : (r : Option ℕ) → position p (x ∷ xs) ≡ r → IfSome r (λ k. k < length (x ∷ xs))
    by None e = tt
    by (Some k) e = (position-Some p (x ∷ xs) k x e).0

-- names that are those of the declarations name the same classes
pub named_in-declared : {Z : Type 0} (keys : List (String Z)) (xs : List ClassDecl) → map string_bytes keys
    ≡ map (λ d. string_bytes d.name) xs → (name : List ℕ) → named_in keys name ≡ class_named (declarations_view xs) name
named_in-declared keys xs same name =
    sym (position-map (bytes_eq name) string_bytes keys)
    ∙ ap (position (bytes_eq name)) same
    ∙ position-map (bytes_eq name) (λ (d : ClassDecl). string_bytes d.name) xs
    ∙ sym (position-map (λ d. bytes_eq name d.name) declaration_view xs)

-- and those of the classes too
pub named_in-classes : {Z : Type 0} (keys : List (String Z)) (classes : Classes) → map (λ (k : Class). k.name) classes
    ≡ map string_bytes keys → (name : List ℕ) → named_in keys name ≡ class_of_name classes name
named_in-classes keys classes same name =
    sym (position-map (bytes_eq name) string_bytes keys)
    ∙ ap (position (bytes_eq name)) (sym same)
    ∙ position-map (bytes_eq name) (λ (k : Class). k.name) classes

same_names : {Z : Type 0} (keys : List (String Z)) (xs : List ClassDecl) → map string_bytes keys ≡ map (λ d. string_bytes d.name) xs → named_in keys ≡ class_named (declarations_view xs)
same_names keys xs same = λ i name. named_in-declared keys xs same name i

pub classes-declared : {Z : Type 0} (keys : List (String Z)) (xs : List ClassDecl) (classes : Classes)
    → map string_bytes keys ≡ map (λ d. string_bytes d.name) xs
    → classes ≡ map (class_by (named_in keys)) (declarations_view xs) → classes ≡ classes_of (declarations_view xs)
unfolding classes_of
classes-declared keys xs classes same e = e ∙ ap (λ named. map (class_by named) (declarations_view xs)) (same_names keys xs same)

pub unknown-declared : {Z : Type 0} (keys : List (String Z)) (xs : List ClassDecl) → map string_bytes keys ≡ map (λ d.
    string_bytes d.name) xs → unknown_by (named_in keys) (declarations_view xs) ≡ unknown_class (declarations_view xs)
unfolding unknown_by unknown_class
unknown-declared keys xs same = ap (λ named. unknown_by named (declarations_view xs)) (same_names keys xs same)

pub circle-declared : (ds : Declarations) (classes : Classes) → classes ≡ classes_of ds → circle_in classes ds ≡ superclass_circle ds
unfolding circle_in superclass_circle
circle-declared ds classes e = ap (λ ks. circle_in ks ds) e

pub twice-declared : (ds : Declarations) (classes : Classes) → classes ≡ classes_of ds → twice_in classes ds ≡ component_twice ds
unfolding twice_in component_twice parts_twice
twice-declared ds classes e = ap (λ ks. twice_in ks ds) e

pub over-declared : (ds : Declarations) (classes : Classes) → classes ≡ classes_of ds → over_in classes ds ≡ over_limit ds
unfolding over_in over_limit
over-declared ds classes e = ap (λ ks. over_in ks ds) e

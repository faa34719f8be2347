-- What a class above gives also holds of a class below it.
use Rattle.std.proofs.Common.{◌≡◌, ℕ, zero, suc, true, nat_eq, List, [], ◌∷◌, ◌++◌, reverse, Option, Some, None, ap, ◌∙◌}
use Rattle.std.specs.Prelude.{option_map, option_and_then}
use Rattle.std.specs.List.{slice_get, list_any, flat_map}
use Rattle.std.proofs.lemmas.List.{reverse-append}
use Rattle.std.proofs.lemmas.Grind.{flat_map-append}
use Rattle.std.proofs.lemmas.List.Folds.{list_any-append}
use Rattle.at_model.specs.Classes.{Classes, Shape, One, Many, Maybe, Token, Component, class_in, own_of, chain, parts, is_sub}
use Rattle.at_model.specs.Kinds.{shape_of_part, single_class}
use Rattle.at_model.proofs.Options.{mapped, led, or_right}

-- a class that is above has its own chain as the end of that of the class
abbrev pub AreChained : Classes → Type 0
AreChained classes = (c b : ℕ) → is_sub classes c b ≡ true → (front : List ℕ) × (chain classes c ≡ front ++ chain classes b)

-- below what is below
pub sub_sub : (classes : Classes) → AreChained classes → (c b d : ℕ) → is_sub classes c b ≡ true → is_sub classes b d ≡ true → is_sub classes c d ≡ true
sub_sub classes lined c b d e f =
    let (front, g) = lined c b e in
    ap (list_any (nat_eq d)) g ∙ list_any-append (nat_eq d) front (chain classes b) ∙ or_right (list_any (nat_eq d) front) _ f

slice_get-front : {A : Type 0} (xs ys : List A) (i : ℕ) (x : A) → slice_get xs i ≡ Some x → slice_get (xs ++ ys) i ≡ Some x
slice_get-front [] ys i x e = absurd (cc)
slice_get-front (z ∷ xs) ys zero x e = e
slice_get-front (z ∷ xs) ys (suc i) x e = slice_get-front xs ys i x e

parts_below : (classes : Classes) → AreChained classes → (c b : ℕ) → is_sub classes c b ≡ true → (more : List Component) × (parts classes c ≡ parts classes b ++ more)
parts_below classes lined c b e =
    let (front, g) = lined c b e in (
      flat_map (own_of classes) (reverse front),
      ap (λ xs. flat_map (own_of classes) (reverse xs)) g ∙ ap (flat_map (own_of classes)) (reverse-append front
          (chain classes b)) ∙ flat_map-append (own_of classes) (reverse (chain classes b)) (reverse front),
    )

-- a component has one shape in the class and in those below
pub shape_below : (classes : Classes) → AreChained classes → (c b part : ℕ) (s : Shape) → is_sub classes c b ≡ true → shape_of_part classes b part ≡ Some s → shape_of_part classes c part ≡ Some s
shape_below classes lined c b part s e f =
    let (more, g) = parts_below classes lined c b e in
    let (p, h, k) = mapped (λ (p : Component). p.shape) (slice_get (parts classes b) part) s f in
    ap (λ xs. option_map (λ (p : Component). p.shape) (slice_get xs part)) g ∙ ap (option_map (λ (p : Component). p.shape)) (slice_get-front (parts classes b) more part p h) ∙ ap Some k

pub asked_below : (classes : Classes) → AreChained classes → (c b part d : ℕ) (f : Shape → Option ℕ)
    → is_sub classes c b ≡ true → option_and_then f (shape_of_part classes b part) ≡ Some d
    → option_and_then f (shape_of_part classes c part) ≡ Some d
asked_below classes lined c b part d f e g =
    let (s, h, k) = led f (shape_of_part classes b part) d g in
    ap (option_and_then f) (shape_below classes lined c b part s e h) ∙ k

-- the class of a single child is the one asked
pub single_is_asked : (o : Option Shape) (b : ℕ) → option_and_then single_class o ≡ Some b → option_and_then class_in o ≡ Some b
single_is_asked None b e = absurd (cc)
single_is_asked (Some (One c)) b e = e
single_is_asked (Some (Many c)) b e = absurd (cc)
single_is_asked (Some (Maybe c)) b e = e
single_is_asked (Some (Token k)) b e = absurd (cc)

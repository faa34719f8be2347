-- Lists of what is fixed.
use Rattle.std.proofs.Common.{◌≡◌, ◌∙◌, ℕ, suc, ◌+◌, ◌<◌, ◌≤◌, true, List, [], ◌∷◌, ◌++◌, length, map, take, drop, get_or, filter_map, Option, Some, None, refl, sym, ap, ap₂, add-one, append-nil, append_assoc, arith}
use Rattle.std.specs.List.{cons_option}
use Rattle.std.proofs.lemmas.List.{map-append, take_all, take_more}
use Rattle.at_model.specs.SyntaxTrees.{Cell, cell_eq}
use Rattle.at_model.proofs.of_texts.SameTrees.{cell_eq-sound}
use Rattle.at_class.specs.Fixing.{Fixed}

-- ---- what is given of items

pub filter_split : {X Y : Type 0} (f : X → Option Y) (x : X) (xs : List X) → filter_map f (x ∷ xs) ≡ filter_map f (x ∷ []) ++ filter_map f xs
filter_split f x xs = by (f x)
  where
    by : (o : Option _) → cons_option o (filter_map f xs) ≡ cons_option o [] ++ filter_map f xs
    by None = refl
    by (Some y) = refl

pub none_given : {X Y : Type 0} (f : X → Option Y) (x : X) (ys : List Y) → f x ≡ None → ys ≡ ys ++ filter_map f (x ∷ [])
none_given f x ys none = sym (append-nil ys) ∙ ap (λ o. ys ++ cons_option o []) (sym none)

pub one_given : {X Y Z : Type 0} (f : X → Option Y) (view : Z → Y) (x : X) (before after : List Z) (z : Z) → f x ≡ Some (view z) → after ≡ before ++ z ∷ []
    → map view after ≡ map view before ++ filter_map f (x ∷ [])
one_given f view x before after z some pushed =
    ap (map view) pushed ∙ map-append view before (z ∷ []) ∙ ap (λ o. map view before ++ cons_option o []) (sym some)

-- ---- whether they are the same

pub fixed_same : (f g : Fixed) → f.class ≡ g.class → f.part ≡ g.part → cell_eq f.cell g.cell ≡ true → f ≡ g
fixed_same f g class part cell =
    ap (λ (c : ℕ). let x : Fixed = record { class = c; part = f.part; cell = f.cell } in x) class
    ∙ ap₂ (λ (p : ℕ) (d : Cell). let x : Fixed = record { class = g.class; part = p; cell = d } in x) part (cell_eq-sound f.cell g.cell cell)

-- one more of both
pub same_more : {X Y : Type 0} (view : X → Y) (xs ys : List X) (i : ℕ) (x y : X) → i < length xs → i < length ys → x ≡ get_or xs i x → y ≡ get_or ys i y
    → view x ≡ view y → map view (take i xs) ≡ map view (take i ys) → map view (take (i + 1) xs) ≡ map view (take (i + 1) ys)
same_more view xs ys i x y less less' is is' same so_far =
    one xs x less is ∙ ap₂ (λ zs z. zs ++ z ∷ []) so_far same ∙ sym (one ys y less' is')
  where
    one : (zs : List _) (z : _) → i < length zs → z ≡ get_or zs i z → map view (take (i + 1) zs) ≡ map view (take i zs) ++ view z ∷ []
    one zs z l there = ap (map view) (take_more zs i z l ∙ ap (λ w. take i zs ++ w ∷ []) (sym there)) ∙ map-append view (take i zs) (z ∷ [])

pub same_all : {X Y : Type 0} (view : X → Y) (xs ys : List X) (i : ℕ) → length xs ≤ i → length ys ≤ i → map view (take i xs) ≡ map view (take i ys)
    → map view xs ≡ map view ys
same_all view xs ys i past past' so_far = ap (map view) (sym (take_all i xs past)) ∙ so_far ∙ ap (map view) (take_all i ys past')

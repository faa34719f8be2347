-- Each test of grammars finds nothing exactly where the grammar keeps the rule: superclasses, components and how many there are.
use Rattle.std.proofs.Common.{◌≡◌, ◌⊎◌, ◌↔◌, ℕ, zero, suc, ◌<◌, ◌≤◌, inl, inr, Bool, true, false, ◌||◌, List, [], ◌∷◌, ◌++◌, length, reverse, take, drop, Option, Some, None, refl, sym, ap, ◌∙◌, subst, arith}
use Rattle.std.specs.Prelude.{position, nat_eq, nat_le, nat_lt, option_map, option_and_then, IfSome}
use Rattle.std.specs.List.{slice_get, flat_map, list_any}
use Rattle.std.specs.Str.{bytes_eq}
use Rattle.std.proofs.lemmas.Bool.Decides.{nat_tests}
use Rattle.std.proofs.lemmas.Option.{slice_get-map, slice_get_within}
use Rattle.std.proofs.lemmas.List.{length-map, reverse-append}
use Rattle.std.proofs.lemmas.List.Quantifiers.{position-Some}
use Rattle.std.proofs.lemmas.Grind.{flat_map-append}
use lib.Chars.{codes}
use Rattle.at_model.specs.Classes.{Classes, Class, Component, Shape, chain_within, chain, parent_of, own_of, parts}
use Rattle.at_model.specs.Classes as class
use Rattle.at_model.specs.Declarations.{Declarations, Declaration, PartDeclaration, classes_of, class_by, class_named, component_by, above, superclass_circle, is_list, takes, clash, is_common, inherited, is_taken, is_twice, component_twice, max_classes, max_parts, over_limit}
use Rattle.at_model.specs.WellFormed.{IsHierarchy}
use Rattle.at_model.specs.GrammarRules.{IsAbove, next, further, AreClassesBelowOthers, TakesName, own, number, all, AreNamesFree, AreComponentsApart, AreFew}
use Rattle.at_model.proofs.Options.{both, and_true, either_true, or_right, not_true, mapped}
use Rattle.at_model.proofs.Chained.{nat_same}
use Rattle.at_model.proofs.LedUp.{has_parent, first_in}
use Rattle.at_model.proofs.LedUp as up
use Rattle.at_model.proofs.FirstGiven.{off_on, classes_pass, no_class_fails, parts_pass, no_part_fails, any_before, before_any}
use Rattle.at_model.proofs.GrammarKept.{or_off, off_or, same_text, text_same, none_of, of_none}

-- superclasses ---------------------------------------------------------------------------------------------------------

position_there : {A : Type 0} (p : A → Bool) (xs : List A) → IfSome (position p xs) (λ k. k < length xs)
position_there p [] = tt
position_there p (x ∷ xs) = by (position p (x ∷ xs)) refl
  where
    by : (r : Option ℕ) → position p (x ∷ xs) ≡ r → IfSome r (λ k. k < length (x ∷ xs))
    by None e = tt
    by (Some k) e = (position-Some p (x ∷ xs) k x e).0

module _ (ds : Declarations) where
  class_at : (c : ℕ) → slice_get (classes_of ds) c ≡ option_map (class_by (class_named ds)) (slice_get ds c)
  unfolding classes_of
  class_at c = slice_get-map (class_by (class_named ds)) ds c

  as_many : length (classes_of ds) ≡ length ds
  unfolding classes_of
  as_many = length-map ds (class_by (class_named ds))

  named_there : (o : Option (List ℕ)) → IfSome (option_and_then (class_named ds) o) (λ b. b < length ds)
  named_there None = tt
  named_there (Some name) = position_there (λ (d : Declaration). bytes_eq name d.name) ds

  parent_there : (o : Option Declaration) → IfSome (option_and_then (λ (k : Class). k.parent) (option_map (class_by (class_named ds)) o)) (λ b. b < length ds)
  parent_there None = tt
  parent_there (Some d) = named_there d.parent

  parents_there : (c : ℕ) → IfSome (parent_of (classes_of ds) c) (λ b. b < length (classes_of ds))
  parents_there c =
      subst (λ n. IfSome (parent_of (classes_of ds) c) (λ b. b < n)) (sym as_many)
      (subst (λ o. IfSome (option_and_then (λ (k : Class). k.parent) o) (λ b. b < length ds)) (sym (class_at c)) (parent_there (slice_get ds c)))

there_at : {A : Type 0} (xs : List A) (c : ℕ) → c < length xs → (x : A) × (slice_get xs c ≡ Some x)
there_at [] c l = absurd (omega (arith, l))
there_at (x ∷ xs) zero l = (x, refl)
there_at (x ∷ xs) (suc c) l = there_at xs c (omega (arith, l))

abbrev circle_test : Classes → ℕ → Declaration → Bool
circle_test classes c d = list_any (nat_eq c) (above classes c)

pub hierarchy_of : (ds : Declarations) → superclass_circle ds ≡ None → IsHierarchy (classes_of ds)
unfolding superclass_circle
hierarchy_of ds e = record {
  parents = parents_there ds;
  no_circle = λ c l. let (d, f) = there_at ds c (subst (λ n. c < n) (as_many ds) l) in classes_pass (circle_test (classes_of ds)) ds e c d f;
}

some_there : (c n : ℕ) → c < n → 0 < n
some_there c n l = omega (arith, l)

-- what is above a class is among those above it
above_in : (classes : Classes) → IsHierarchy classes → (b c : ℕ) → IsAbove classes b c → list_any (nat_eq b) (above classes c) ≡ true
unfolding chain
above_in classes h b c (next d e) =
    let some = some_there d (length classes) (has_parent classes d b e) in
    ap (λ o. list_any (nat_eq b) (chain_within (length classes) classes o)) e ∙ ap (list_any (nat_eq b)) (up.led classes h some b) ∙ first_in b (above classes b)
above_in classes h b c (further k d e r) =
    let some = some_there k (length classes) (has_parent classes k d e) in
    ap (λ o. list_any (nat_eq b) (chain_within (length classes) classes o)) e ∙ ap (list_any (nat_eq b)) (up.led classes h some d) ∙ or_right (nat_eq b d) _ (above_in classes h b d r)

below_some : (classes : Classes) (b c : ℕ) → IsAbove classes b c → c < length classes
below_some classes b c (next d e) = has_parent classes d b e
below_some classes b c (further k d e r) = has_parent classes k d e

-- and what is among them is above it
in_above : (classes : Classes) (m b c : ℕ) (o : Option ℕ) → parent_of classes c ≡ o → list_any (nat_eq b) (chain_within m classes o) ≡ true → IsAbove classes b c
in_above classes zero b c o e f = absurd cc
in_above classes (suc m) b c None e f = absurd cc
in_above classes (suc m) b c (Some d) e f = elim (either_true (nat_eq b d) _ f) [
  | inl g ↦ next c (e ∙ ap Some (sym (nat_same b d g)))
  | inr g ↦ further c d e (in_above classes m b d (parent_of classes d) refl g)
]

no_circle_above : (classes : Classes) → IsHierarchy classes → (c : ℕ) → IsAbove classes c c → ⊥
no_circle_above classes h c r = off_on _ (h.no_circle c (below_some classes c c r)) (above_in classes h c c r)

pub classes_below_others : (ds : Declarations) → (superclass_circle ds ≡ None) ↔ AreClassesBelowOthers ds
unfolding superclass_circle
classes_below_others ds = (
  λ e. no_circle_above (classes_of ds) (hierarchy_of ds e),
  λ h. no_class_fails (circle_test (classes_of ds)) ds (λ c d f. not_true _ (λ g. h c (in_above (classes_of ds) (length (classes_of ds)) c c (parent_of (classes_of ds) c) refl g))),
)

-- components -----------------------------------------------------------------------------------------------------------

list_there : (s : Shape) → is_list s ≡ true → (b : ℕ) × (s ≡ class.Many b)
list_there (class.One b) e = absurd cc
list_there (class.Many b) e = (b, refl)
list_there (class.Maybe b) e = absurd cc
list_there (class.Token k) e = absurd cc

takes_name : (p : Component) (name : List ℕ) → takes p name ≡ true → TakesName p name
takes_name p name e =
    let (f, g) = both (is_list p.shape) _ e in
    let (b, h) = list_there p.shape f in
    elim (either_true (bytes_eq name (codes "Num" ++ p.name)) _ g) [
      | inl k ↦ subst (TakesName p) (sym (same_text name (codes "Num" ++ p.name) k)) (number b h)
      | inr k ↦ subst (TakesName p) (sym (same_text name (p.name ++ codes "List") k)) (all b h)
    ]

or_first : (a b : Bool) → a ≡ true → (a || b) ≡ true
or_first true b e = refl
or_first false b e = absurd cc

name_takes : (p : Component) (name : List ℕ) → TakesName p name → (bytes_eq p.name name || takes p name) ≡ true
name_takes p name own = or_first (bytes_eq p.name p.name) _ (text_same p.name p.name refl)
name_takes p name (number b e) = or_right (bytes_eq p.name (codes "Num" ++ p.name))
    _ (and_true (is_list p.shape) _ (ap is_list e) (or_first (bytes_eq (codes "Num" ++ p.name) (codes "Num" ++ p.name))
    _ (text_same (codes "Num" ++ p.name) (codes "Num" ++ p.name) refl)))
name_takes p name (all b e) = or_right (bytes_eq p.name (p.name ++ codes "List"))
    _ (and_true (is_list p.shape) _ (ap is_list e) (or_right (bytes_eq (p.name ++ codes "List") (codes "Num" ++ p.name))
    _ (text_same (p.name ++ codes "List") (p.name ++ codes "List") refl)))

clash_by : (a b c d : Bool) → (a || b) ≡ true → (a ≡ true → d ≡ true) → ((a || b || c) ≡ true) × ((d || c || b) ≡ true)
clash_by true b c d e f = (refl, or_first (d || c) b (or_first d c (f refl)))
clash_by false true c d e f = (refl, or_right (d || c) true refl)
clash_by false false c d e f = absurd cc

-- two clash where one takes the other's name
name_clash : (p q : Component) → TakesName p q.name → (clash p q ≡ true) × (clash q p ≡ true)
name_clash p q t = clash_by (bytes_eq p.name q.name) (takes p q.name) (takes q p.name) (bytes_eq q.name p.name) (name_takes p q.name t) (λ e. text_same q.name p.name (sym (same_text p.name q.name e)))

clash_name : (p q : Component) → clash p q ≡ true → TakesName p q.name ⊎ TakesName q p.name
clash_name p q e = elim (either_true (bytes_eq p.name q.name || takes p q.name) (takes q p.name) e) [
  | inl f ↦ elim (either_true (bytes_eq p.name q.name) (takes p q.name) f) [
    | inl g ↦ inl (subst (TakesName p) (same_text p.name q.name g) own)
    | inr g ↦ inl (takes_name p q.name g)
  ]
  | inr f ↦ inr (takes_name q p.name f)
]

-- none is taken by those before it
abbrev IsFree : List Component → Type 0
IsFree ps = (j : ℕ) (q : Component) → slice_get ps j ≡ Some q → is_taken (take j ps) q ≡ false

module _ (ps : List Component) (free : IsFree ps) where
  before_free : (i j : ℕ) (p q : Component) → slice_get ps i ≡ Some p → slice_get ps j ≡ Some q → clash q p ≡ true → i < j → ⊥
  before_free i j p q e f c l = off_on _ (or_off (is_common q.name) _ (free j q f)).1 (any_before (clash q) ps j i p l e c)

  by_order : (i j : ℕ) → (i < j → ⊥) → (j < i → ⊥) → (s t : Bool) → nat_lt i j ≡ s → nat_lt j i ≡ t → i ≡ j
  by_order i j h k true t e f = absurd (h (grind (arith, nat_tests)))
  by_order i j h k false true e f = absurd (k (grind (arith, nat_tests)))
  by_order i j h k false false e f = grind (arith, nat_tests)

  names_free : AreNamesFree ps
  names_free = record {
    apart = λ i j p q e f t. by_order i j (before_free i j p q e f (name_clash p q t).1) (before_free j i q p f e (name_clash p q t).0) (nat_lt i j) (nat_lt j i) refl refl;
    free = λ i p e. none_of p.name (codes "Child") (codes "Parent") (codes "NumChild") (or_off (is_common p.name) _ (free i p e)).0;
  }

free_names : (ps : List Component) → AreNamesFree ps → IsFree ps
free_names ps h j q e =
    off_or (is_common q.name) _ (of_none q.name (codes "Child") (codes "Parent") (codes "NumChild") (h.free j q e)) (not_true _ (λ f.
    let (i, p, l, g, c) = before_any (clash q) ps j f in
    elim (clash_name q p c) [
      | inl t ↦ let k : j ≡ i = h.apart j i q p e g t in omega (arith, k, l)
      | inr t ↦ let k : i ≡ j = h.apart i j p q g e t in omega (arith, k, l)
    ]))

-- an element of two lists joined
joined_at : {A : Type 0} (xs ys : List A) (j : ℕ) (q : A) → slice_get (xs ++ ys) j ≡ Some q
    → ((slice_get xs j ≡ Some q) × (take j (xs ++ ys) ≡ take j xs)) ⊎ ((i : ℕ) × (slice_get ys i ≡ Some q) × (take j (xs ++ ys) ≡ xs ++ take i ys))
joined_at [] ys j q e = inr (j, e, refl)
joined_at (x ∷ xs) ys zero q e = inl (e, refl)
joined_at (x ∷ xs) ys (suc j) q e = elim (joined_at xs ys j q e) [
  | inl (f, g) ↦ inl (f, ap (λ zs. x ∷ zs) g)
  | inr (i, f, g) ↦ inr (i, f, ap (λ zs. x ∷ zs) g)
]

at_joined : {A : Type 0} (xs ys : List A) (i : ℕ) (q : A) → slice_get ys i ≡ Some q → (j : ℕ) × (slice_get (xs ++ ys) j ≡ Some q) × (take j (xs ++ ys) ≡ xs ++ take i ys)
at_joined [] ys i q e = (i, e, refl)
at_joined (x ∷ xs) ys i q e = let (j, f, g) = at_joined xs ys i q e in (suc j, f, ap (λ zs. x ∷ zs) g)

free_joined : (xs ys : List Component) → IsFree xs → ((i : ℕ) (q : Component) → slice_get ys i ≡ Some q → is_taken (xs ++ take i ys) q ≡ false) → IsFree (xs ++ ys)
free_joined xs ys h g j q e = elim (joined_at xs ys j q e) [
  | inl (f, t) ↦ ap (λ zs. is_taken zs q) t ∙ h j q f
  | inr (i, f, t) ↦ ap (λ zs. is_taken zs q) t ∙ g i q f
]

nothing_free : IsFree []
nothing_free j q e = absurd cc

no_more : {A : Type 0} (xs : List A) → xs ++ [] ≡ xs
no_more [] = refl
no_more (x ∷ xs) = ap (λ zs. x ∷ zs) (no_more xs)

module _ (classes : Classes) (h : IsHierarchy classes) (some : 0 < length classes) where
  -- the components of a class are those that it inherits, and then its own
  parts_led : (c : ℕ) → parts classes c ≡ inherited classes c ++ own_of classes c
  parts_led c =
      ap (λ xs. flat_map (own_of classes) (reverse xs)) (up.led classes h some c)
      ∙ ap (flat_map (own_of classes)) (reverse-append (c ∷ []) (above classes c))
      ∙ flat_map-append (own_of classes) (reverse (above classes c)) (c ∷ [])
      ∙ ap (λ xs. inherited classes c ++ xs) (no_more (own_of classes c))

  module _ (own_free : (c i : ℕ) (q : Component) → slice_get (own_of classes c) i ≡ Some q → is_taken (inherited classes c ++ take i (own_of classes c)) q ≡ false) where
    free_up : (way : List ℕ) (c : ℕ) → chain classes c ≡ way → IsFree (parts classes c)
    unfolding chain
    free_up [] c e = absurd (none (sym (up.led classes h some c) ∙ e))
      where
        none : c ∷ above classes c ≡ [] → ⊥
        none f = cc
    free_up (x ∷ xs) c e =
        subst IsFree (sym (parts_led c)) (free_joined (inherited classes c) (own_of classes c)
        (by_parent (parent_of classes c) refl (λ b f. free_up xs b (ap (λ o. chain_within (length classes) classes o) (sym f) ∙ ap (drop 1) (sym (up.led classes h some c) ∙ e)))) (own_free c))
      where
        none : (m : ℕ) → chain_within m classes None ≡ []
        none zero = refl
        none (suc m) = refl

        by_parent : (o : Option ℕ) → parent_of classes c ≡ o → ((b : ℕ) → parent_of classes c ≡ Some b → IsFree (parts classes b)) → IsFree (inherited classes c)
        by_parent None f rest = subst IsFree
            (sym (ap (λ o. flat_map (own_of classes) (reverse (chain_within (length classes) classes o))) f
            ∙ ap (λ xs. flat_map (own_of classes) (reverse xs)) (none (length classes)))) nothing_free
        by_parent (Some b) f rest = subst IsFree (sym (ap (λ o. flat_map (own_of classes) (reverse (chain_within (length classes) classes o))) f)) (rest b f)

    free_parts : (c : ℕ) → IsFree (parts classes c)
    free_parts c = free_up (chain classes c) c refl

  free_own : ((c : ℕ) → IsFree (parts classes c)) → (c i : ℕ) (q : Component) → slice_get (own_of classes c) i ≡ Some q → is_taken (inherited classes c ++ take i (own_of classes c)) q ≡ false
  free_own free c i q e =
      let (j, f, t) = at_joined (inherited classes c) (own_of classes c) i q e in
      ap (λ zs. is_taken zs q) (sym t) ∙ subst IsFree (parts_led c) (free c) j q f

own_part : (named : List ℕ → Option ℕ) (o : Option Declaration) (i : ℕ) (q : Component) → slice_get (elim (option_map (class_by named) o) [ None ↦ [] | Some k ↦ k.own ]) i ≡ Some q
    → (d : Declaration) × (p : PartDeclaration) × (o ≡ Some d) × (slice_get d.parts i ≡ Some p)
own_part named None i q e = absurd cc
own_part named (Some d) i q e =
    let (p, f, g) = mapped (component_by named) (slice_get d.parts i) q (sym (slice_get-map (component_by named) d.parts i) ∙ e) in
    (d, p, refl, f)

-- where a class has a component of its own, one is declared there
own_declared : (ds : Declarations) (c i : ℕ) (q : Component) → slice_get (own_of (classes_of ds) c) i ≡ Some q
    → (d : Declaration) × (p : PartDeclaration) × (slice_get ds c ≡ Some d) × (slice_get d.parts i ≡ Some p)
own_declared ds c i q e = own_part (class_named ds) (slice_get ds c) i q (ap (λ o. slice_get (elim o [ None ↦ [] | Some k ↦ k.own ]) i) (sym (class_at ds c)) ∙ e)

untaken : (before : List Component) (o : Option Component) (q : Component) → elim o [ None ↦ false | Some p ↦ is_taken before p ] ≡ false → o ≡ Some q → is_taken before q ≡ false
untaken before None q e f = absurd cc
untaken before (Some p) q e f = let same : p ≡ q = cc in subst (λ z. is_taken before z ≡ false) same e

taken_not : (before : List Component) (o : Option Component) → ((q : Component) → o ≡ Some q → is_taken before q ≡ false) → elim o [ None ↦ false | Some p ↦ is_taken before p ] ≡ false
taken_not before None h = refl
taken_not before (Some q) h = h q refl

abbrev part_test : Classes → ℕ → ℕ → PartDeclaration → Bool
part_test classes c i p = is_twice classes c i

own_by_test : (ds : Declarations) → ((c i : ℕ) (d : Declaration) (p : PartDeclaration) → slice_get ds c ≡ Some d → slice_get d.parts i ≡ Some p → is_twice (classes_of ds) c i ≡ false)
    → (c i : ℕ) (q : Component) → slice_get (own_of (classes_of ds) c) i ≡ Some q → is_taken (inherited (classes_of ds) c ++ take i (own_of (classes_of ds) c)) q ≡ false
own_by_test ds pass c i q e =
    let (d, p, f, g) = own_declared ds c i q e in
    untaken (inherited (classes_of ds) c ++ take i (own_of (classes_of ds) c)) (slice_get (own_of (classes_of ds) c) i) q (pass c i d p f g) e

test_by_own : (ds : Declarations) → ((c i : ℕ) (q : Component) → slice_get (own_of (classes_of ds) c) i ≡ Some q
    → is_taken (inherited (classes_of ds) c ++ take i (own_of (classes_of ds) c)) q ≡ false)
    → (c i : ℕ) → is_twice (classes_of ds) c i ≡ false
test_by_own ds h c i = taken_not (inherited (classes_of ds) c ++ take i (own_of (classes_of ds) c)) (slice_get (own_of (classes_of ds) c) i) (λ q e. h c i q e)

no_parts : (classes : Classes) (c n : ℕ) → slice_get classes c ≡ None → flat_map (own_of classes) (reverse (chain_within n classes (Some c))) ≡ []
no_parts classes c zero e = refl
no_parts classes c (suc n) e =
    ap (λ o. flat_map (own_of classes) (reverse (c ∷ chain_within n classes o))) (ap (option_and_then (λ (k : Class). k.parent)) e)
    ∙ ap (λ xs. flat_map (own_of classes) (reverse (c ∷ xs))) (none n)
    ∙ ap (λ o. elim o [ None ↦ [] | Some k ↦ k.own ] ++ []) e
  where
    none : (m : ℕ) → chain_within m classes None ≡ []
    none zero = refl
    none (suc m) = refl

-- a number that no class has has no components
parts_past : (classes : Classes) (c : ℕ) → slice_get classes c ≡ None → parts classes c ≡ []
unfolding chain
parts_past classes c e = no_parts classes c (length classes) e

none_declared : (c : ℕ) → slice_get (classes_of []) c ≡ None
unfolding classes_of
none_declared c = refl

apart_in : (ds : Declarations) → superclass_circle ds ≡ None → component_twice ds ≡ None → AreComponentsApart ds
unfolding component_twice
apart_in [] e f c = subst AreNamesFree (sym (parts_past (classes_of []) c (none_declared c))) (names_free [] nothing_free)
apart_in (d ∷ ds) e f c =
    let some : 0 < length (classes_of (d ∷ ds)) = subst (λ n. 0 < n) (sym (as_many (d ∷ ds))) (omega arith) in
    names_free (parts (classes_of (d ∷ ds)) c) (free_parts (classes_of (d ∷ ds)) (hierarchy_of (d ∷ ds) e) some (own_by_test (d ∷ ds) (parts_pass (part_test (classes_of (d ∷ ds))) (d ∷ ds) f)) c)

none_twice : (ds : Declarations) → superclass_circle ds ≡ None → AreComponentsApart ds → component_twice ds ≡ None
unfolding component_twice
none_twice [] e h = refl
none_twice (d ∷ ds) e h =
    let some : 0 < length (classes_of (d ∷ ds)) = subst (λ n. 0 < n) (sym (as_many (d ∷ ds))) (omega arith) in
    no_part_fails (part_test (classes_of (d ∷ ds))) (d ∷ ds) (λ c i x p f g. test_by_own (d ∷ ds) (free_own (classes_of
    (d ∷ ds)) (hierarchy_of (d ∷ ds) e) some (λ b. free_names (parts (classes_of (d ∷ ds)) b) (h b))) c i)

pub components_apart : (ds : Declarations) → superclass_circle ds ≡ None → (component_twice ds ≡ None) ↔ AreComponentsApart ds
components_apart ds e = (apart_in ds e, none_twice ds e)

-- how many there are ---------------------------------------------------------------------------------------------------

few_by : {A : Type 0} (xs : List A) (n : ℕ) → ((c : ℕ) (x : A) → slice_get xs c ≡ Some x → nat_le n c ≡ false) → length xs ≤ n
few_by [] n h = omega arith
few_by (x ∷ xs) zero h = let e = h 0 x refl in grind (arith, nat_tests, e)
few_by (x ∷ xs) (suc n) h =
    let r = few_by xs n (λ c y e. less n c (h (suc c) y e)) in omega (arith, r)
  where
    less : (n c : ℕ) → nat_le (suc n) (suc c) ≡ false → nat_le n c ≡ false
    less n c e = grind (arith, nat_tests, e)

not_over : (n c m : ℕ) → c < m → m ≤ n → nat_le n c ≡ false
not_over n c m l k = grind (arith, nat_tests)

at_most : (m n : ℕ) → nat_lt m n ≡ false → n ≤ m
at_most m n e = grind (arith, nat_tests)

most_at : (m n : ℕ) → n ≤ m → nat_lt m n ≡ false
most_at m n l = grind (arith, nat_tests)

none_long : {A : Type 0} (m : ℕ) (xs : List A) → xs ≡ [] → length xs ≤ m
none_long m xs e = subst (λ zs. length zs ≤ m) (sym e) (omega arith)

module _ (most_classes most_parts : ℕ) (ds : Declarations) where
  abbrev limit_test : ℕ → Declaration → Bool
  limit_test c d = nat_le most_classes c || nat_lt most_parts (length (parts (classes_of ds) c))

  parts_within : ((c : ℕ) (d : Declaration) → slice_get ds c ≡ Some d → limit_test c d ≡ false) → (c : ℕ) (o : Option Declaration) → slice_get ds c ≡ o → length (parts (classes_of ds) c) ≤ most_parts
  parts_within pass c None e = none_long most_parts (parts (classes_of ds) c) (parts_past (classes_of ds) c (class_at ds c ∙ ap (option_map (class_by (class_named ds))) e))
  parts_within pass c (Some d) e = at_most most_parts (length (parts (classes_of ds) c)) (or_off (nat_le most_classes c) _ (pass c d e)).1

  classes_within : ((c : ℕ) (d : Declaration) → slice_get ds c ≡ Some d → limit_test c d ≡ false) → length ds ≤ most_classes
  classes_within pass = few_by ds most_classes (λ c d e. (or_off (nat_le most_classes c) _ (pass c d e)).0)

  within_passes : length ds ≤ most_classes → ((c : ℕ) → length (parts (classes_of ds) c) ≤ most_parts) → (c : ℕ) (d : Declaration) → slice_get ds c ≡ Some d → limit_test c d ≡ false
  within_passes few h c d e = off_or (nat_le most_classes c) _ (not_over most_classes c (length ds) (slice_get_within ds c d e) few) (most_at most_parts (length (parts (classes_of ds) c)) (h c))

pub classes_few : (ds : Declarations) → (over_limit ds ≡ None) ↔ AreFew ds
unfolding over_limit
classes_few ds = (
  λ e.
      let pass = classes_pass (limit_test max_classes max_parts ds) ds e in
      record { classes = classes_within max_classes max_parts ds pass; parts = λ c. parts_within max_classes max_parts ds pass c (slice_get ds c) refl },
  λ h. no_class_fails (limit_test max_classes max_parts ds) ds (within_passes max_classes max_parts ds h.classes h.parts),
)

-- Rules that are searched have searched equations where the others have theirs, and are well formed where the others are.
use Rattle.std.proofs.Common.{◌≡◌, ℕ, Bool, true, false, cond, ◌&&◌, nat_eq, List, [], ◌∷◌, Option, Some, None, refl, sym, ap, ◌∙◌, subst}
use Rattle.std.specs.Prelude.{⊤, find, option_map, IsSome}
use Rattle.std.specs.Option.{option_or}
use Rattle.std.specs.List.{slice_get, AllByRecursion}
use Rattle.std.specs.Str.{bytes_eq}
use Rattle.at_model.specs.Classes.{chain, is_sub}
use Rattle.at_model.specs.Bodies.{Expr}
use Rattle.at_model.specs.Rules.{Rules, Attribute, OwnEquation, InheritedEquation, first_answer, own_in, own_equation, part_eq, inherited_in, inherited_equation, PassesDown, Exposed, as_root, below, AreComplete}
use Rattle.at_model.specs.Kinds.{HasKind, IsOwnTyped, IsInheritedTyped, is_for_list, AreTyped}
use Rattle.at_model.specs.WellFormed.{AreWellFormed}
use Rattle.at_model.proofs.Options.{both}
use Rattle.at_model.proofs.Chained.{nat_same}
use Rattle.at_model.proofs.of_typing.TypedEquations.{each_among}
use Rattle.at_seek.specs.Sought.{IsSearched, IsOwnSought, IsInheritedSought, EachBy, IsSought}
use Rattle.at_seek.proofs.KindsKept.{other, kept}

-- what is found in lists whose elements are related --------------------------------------------------------------------

-- both are there and related, or neither
abbrev pub BothBy : {A : Type 0} → (A → A → Type 0) → Option A → Option A → Type 0
BothBy R None None = ⊤
BothBy R (Some a) (Some b) = R a b
BothBy R o q = ⊥

by_test : {A : Type 0} (R : A → A → Type 0) (x y : A) (o q : Option A) (b c : Bool) → (b ≡ true → R x y) → c ≡ b → BothBy R o q
    → BothBy R (cond b (Some x) o) (cond c (Some y) q)
by_test R x y o q true true h e rest = h refl
by_test R x y o q false false h e rest = rest
by_test R x y o q true false h e rest = absurd cc
by_test R x y o q false true h e rest = absurd cc

find_both : {A : Type 0} (R : A → A → Type 0) (p : A → Bool) → ((a b : A) → R a b → p b ≡ p a) → (xs ys : List A) → EachBy R xs ys
    → BothBy (λ a b. R a b × (p a ≡ true)) (find p xs) (find p ys)
find_both R p same [] [] h = tt
find_both R p same (x ∷ xs) (y ∷ ys) (h, hs) =
    by_test (λ a b. R a b × (p a ≡ true)) x y (find p xs) (find p ys) (p x) (p y) (λ e. (h, e)) (same x y h) (find_both R p same xs ys hs)
find_both R p same [] (y ∷ ys) h = absurd h
find_both R p same (x ∷ xs) [] h = absurd h

map_both : {A B : Type 0} (R : A → A → Type 0) (S : B → B → Type 0) (f : A → B) (o q : Option A) → ((a b : A) → R a b → S (f a) (f b)) → BothBy R o q
    → BothBy S (option_map f o) (option_map f q)
map_both R S f None None g h = tt
map_both R S f (Some a) (Some b) g h = g a b h
map_both R S f None (Some b) g h = absurd h
map_both R S f (Some a) None g h = absurd h

or_both : {A : Type 0} (R : A → A → Type 0) (o q p r : Option A) → BothBy R o q → BothBy R p r → BothBy R (option_or o p) (option_or q r)
or_both R None None p r h g = g
or_both R (Some a) (Some b) p r h g = h
or_both R None (Some b) p r h g = absurd h
or_both R (Some a) None p r h g = absurd h

first_both : {A B : Type 0} (P : A → Type 0) (R : B → B → Type 0) (f g : A → Option B) (xs : List A) → AllByRecursion P xs → ((x : A) → P x → BothBy R (f x) (g x))
    → BothBy R (first_answer f xs) (first_answer g xs)
first_both P R f g [] h each = tt
first_both P R f g (x ∷ xs) (h, hs) each = or_both R (f x) (g x) (first_answer f xs) (first_answer g xs) (each x h) (first_both P R f g xs hs each)

both_some : {A : Type 0} (R : A → A → Type 0) (o q : Option A) → BothBy R o q → IsSome o → IsSome q
both_some R None None h s = s
both_some R (Some a) (Some b) h s = refl
both_some R None (Some b) h s = absurd h
both_some R (Some a) None h s = absurd h

both_none : {A : Type 0} (R : A → A → Type 0) (o q : Option A) → BothBy R o q → q ≡ None → o ≡ None
both_none R None None h e = refl
both_none R (Some a) (Some b) h e = absurd cc
both_none R None (Some b) h e = absurd h
both_none R (Some a) None h e = absurd h

each_typed : {A : Type 0} (R : A → A → Type 0) (P Q : A → Type 0) (xs ys : List A) → ((a b : A) → R a b → P a → Q b) → EachBy R xs ys → AllByRecursion P xs → AllByRecursion Q ys
each_typed R P Q [] [] f h g = tt
each_typed R P Q (x ∷ xs) (y ∷ ys) f (h, hs) (g, gs) = (f x y h g, each_typed R P Q xs ys f hs gs)
each_typed R P Q [] (y ∷ ys) f h g = absurd h
each_typed R P Q (x ∷ xs) [] f h g = absurd h

-- equations ------------------------------------------------------------------------------------------------------------

module _ (rules : Rules) (own : List OwnEquation) (inherited : List InheritedEquation) (sought : IsSought rules (other rules own inherited)) where
  abbrev searched : Rules
  searched = other rules own inherited

  -- what an own equation of the class or one above it has for the attribute
  abbrev pub OwnBodies : (c attribute : ℕ) → Expr → Expr → Type 0
  OwnBodies c attribute e f = (b : ℕ) × (is_sub rules.classes c b ≡ true) × ((a : Attribute) → slice_get rules.attributes attribute ≡ Some a
      → IsSearched rules (record { this = b; names = a.parameters; has_index = false }) e f)

  -- and an inherited one for the name
  abbrev pub InheritedBodies : (c : ℕ) → (name : List ℕ) → Expr → Expr → Type 0
  InheritedBodies c name e f = (b : ℕ) × (is_sub rules.classes c b ≡ true) × (index : Bool)
      × ((k : ℕ) (a : Attribute) → slice_get rules.attributes k ≡ Some a → a.is_inherited ≡ true → a.name ≡ name
      → IsSearched rules (record { this = b; names = a.parameters; has_index = index }) e f)

  pub own_both : (c attribute : ℕ) → BothBy (OwnBodies c attribute) (own_equation rules c attribute) (own_equation searched c attribute)
  own_both c attribute =
      first_both (λ b. is_sub rules.classes c b ≡ true) (OwnBodies c attribute) (own_in rules attribute) (own_in searched attribute) (chain rules.classes c)
      (each_among (chain rules.classes c)) (λ b sub.
      map_both (λ (e f : OwnEquation). IsOwnSought rules e f × ((nat_eq e.class b && nat_eq e.attribute attribute) ≡ true)) (OwnBodies c attribute) (λ (e : OwnEquation). e.body)
      (find (λ (e : OwnEquation). nat_eq e.class b && nat_eq e.attribute attribute) rules.own)
      (find (λ (e : OwnEquation). nat_eq e.class b && nat_eq e.attribute attribute) own)
      (λ e f s.
      let (x, y) = both (nat_eq e.class b) (nat_eq e.attribute attribute) s.1 in (
        e.class,
        subst (λ z. is_sub rules.classes c z ≡ true) (sym (nat_same e.class b x)) sub,
        λ a g. s.0.body a (ap (slice_get rules.attributes) (nat_same e.attribute attribute y) ∙ g),
      ))
      (find_both (IsOwnSought rules) (λ (e : OwnEquation). nat_eq e.class b && nat_eq e.attribute attribute)
      (λ e f s. ap (λ z. nat_eq z b && nat_eq f.attribute attribute) s.class ∙ ap (λ z. nat_eq e.class b && nat_eq z attribute) s.attribute) rules.own own sought.own))

  in_both : (c b : ℕ) (name : List ℕ) (part : Option ℕ) → is_sub rules.classes c b ≡ true
      → BothBy (InheritedBodies c name) (inherited_in rules name part b) (inherited_in searched name part b)
  in_both c b name part sub =
      map_both (λ (e f : InheritedEquation). IsInheritedSought rules e f × ((nat_eq e.class b && part_eq e.part part && bytes_eq e.name name) ≡ true))
      (InheritedBodies c name) (λ (e : InheritedEquation). e.body)
      (find (λ (e : InheritedEquation). nat_eq e.class b && part_eq e.part part && bytes_eq e.name name) rules.inherited)
      (find (λ (e : InheritedEquation). nat_eq e.class b && part_eq e.part part && bytes_eq e.name name) inherited)
      (λ e f s.
      let (xy, z) = both (nat_eq e.class b && part_eq e.part part) (bytes_eq e.name name) s.1 in
      let (x, y) = both (nat_eq e.class b) (part_eq e.part part) xy in (
        e.class,
        subst (λ z. is_sub rules.classes c z ≡ true) (sym (nat_same e.class b x)) sub,
        is_for_list rules e,
        λ k a g inh named. s.0.body k a (g, inh, subst (λ w. bytes_eq e.name w ≡ true) (sym named) z),
      ))
      (find_both (IsInheritedSought rules) (λ (e : InheritedEquation). nat_eq e.class b && part_eq e.part part && bytes_eq e.name name)
      (λ e f s. ap (λ z. nat_eq z b && part_eq f.part part && bytes_eq f.name name) s.class
      ∙ ap (λ z. nat_eq e.class b && part_eq z part && bytes_eq f.name name) s.part
      ∙ ap (λ z. nat_eq e.class b && part_eq e.part part && bytes_eq z name) s.name) rules.inherited inherited sought.inherited)

  pub inherited_both : (c part : ℕ) (name : List ℕ) → BothBy (InheritedBodies c name) (inherited_equation rules c part name) (inherited_equation searched c part name)
  inherited_both c part name =
      first_both (λ b. is_sub rules.classes c b ≡ true) (InheritedBodies c name) (λ b. option_or (inherited_in rules name (Some part) b) (inherited_in rules name None b))
      (λ b. option_or (inherited_in searched name (Some part) b) (inherited_in searched name None b)) (chain rules.classes c)
      (each_among (chain rules.classes c)) (λ b sub.
      or_both (InheritedBodies c name) (inherited_in rules name (Some part) b) (inherited_in searched name (Some part) b) (inherited_in rules name None b) (inherited_in searched name None b)
      (in_both c b name (Some part) sub) (in_both c b name None sub))

  -- kinds ----------------------------------------------------------------------------------------------------------------

  own_typed : (e f : OwnEquation) → IsOwnSought rules e f → IsOwnTyped rules e → IsOwnTyped searched f
  own_typed e f s t = record {
    declaration = t.declaration;
    attribute = ap (slice_get rules.attributes) s.attribute ∙ t.attribute;
    synthesized = t.synthesized;
    declared = subst (λ c. is_sub rules.classes c t.declaration.class ≡ true) (sym s.class) t.declared;
    body = subst (λ c. HasKind searched (record { this = c; names = t.declaration.parameters; has_index = false }) f.body t.declaration.result) (sym s.class)
        (kept rules own inherited (record { this = e.class; names = t.declaration.parameters; has_index = false }) e.body f.body (s.body t.declaration t.attribute)
        (record { this = e.class; names = t.declaration.parameters; has_index = false }) t.declaration.result t.body);
  }

  abbrev with_body : InheritedEquation → Expr → InheritedEquation
  with_body e b = record { class = e.class; part = e.part; name = e.name; body = b }

  is_that : (e f : InheritedEquation) → f.class ≡ e.class → f.part ≡ e.part → f.name ≡ e.name
      → with_body e f.body ≡ f
  is_that e f x y z =
      ap (λ c. record { class = c; part = e.part; name = e.name; body = f.body }) (sym x)
      ∙ ap (λ p. record { class = f.class; part = p; name = e.name; body = f.body }) (sym y)
      ∙ ap (λ n. record { class = f.class; part = f.part; name = n; body = f.body }) (sym z)

  inherited_typed : (e f : InheritedEquation) → IsInheritedSought rules e f → IsInheritedTyped rules e → IsInheritedTyped searched f
  inherited_typed e f s t = subst (IsInheritedTyped searched) (is_that e f s.class s.part s.name) (record {
    class = t.class;
    part = t.part;
    declared = t.declared;
    body = λ k a of.
        kept rules own inherited (record { this = e.class; names = a.parameters; has_index = is_for_list rules e }) e.body f.body (s.body k a of)
        (record { this = e.class; names = a.parameters; has_index = is_for_list rules e }) a.result (t.body k a of);
  })

  typed_also : AreTyped rules → AreTyped searched
  typed_also t = record {
    attributes = t.attributes;
    alike = t.alike;
    own = each_typed (IsOwnSought rules) (IsOwnTyped rules) (IsOwnTyped searched) rules.own own own_typed sought.own t.own;
    inherited = each_typed (IsInheritedSought rules) (IsInheritedTyped rules) (IsInheritedTyped searched) rules.inherited inherited inherited_typed sought.inherited t.inherited;
  }

  -- no equation is missing -----------------------------------------------------------------------------------------------

  passes : (name : List ℕ) (c d : ℕ) → PassesDown searched name c d → PassesDown rules name c d
  passes name c d p = record {
    part = p.part;
    class = p.class;
    trees = p.trees;
    fit = p.fit;
    without = both_none (InheritedBodies c name) (inherited_equation rules c p.part name) (inherited_equation searched c p.part name) (inherited_both c p.part name) p.without;
  }

  exposed : (name : List ℕ) (c : ℕ) → Exposed searched name c → Exposed rules name c
  exposed name _ (as_root c fit) = as_root c fit
  exposed name _ (below c d x p) = below c d (exposed name c x) (passes name c d p)

  complete_also : AreComplete rules → AreComplete searched
  complete_also h = record {
    synthesized = λ c attribute a e own' fit.
        both_some (OwnBodies c attribute) (own_equation rules c attribute) (own_equation searched c attribute) (own_both c attribute) (h.synthesized c attribute a e own' fit);
    inherited = λ c attribute a e inh fit x. h.inherited c attribute a e inh fit (exposed a.name c x);
  }

  pub well_formed_also : AreWellFormed rules → AreWellFormed searched
  well_formed_also h = record { hierarchy = h.hierarchy; typed = typed_also h.typed; complete = complete_also h.complete }

-- for rules as they come -----------------------------------------------------------------------------------------------

pub as_other : (rules also : Rules) → IsSought rules also → other rules also.own also.inherited ≡ also
as_other rules also s =
    ap (λ c. record { classes = c; attributes = rules.attributes; own = also.own; inherited = also.inherited }) (sym s.classes)
    ∙ ap (λ a. record { classes = also.classes; attributes = a; own = also.own; inherited = also.inherited }) (sym s.attributes)

pub sought_other : (rules also : Rules) → IsSought rules also → IsSought rules (other rules also.own also.inherited)
sought_other rules also s = record { classes = refl; attributes = refl; own = s.own; inherited = s.inherited }

pub well_formed : (rules also : Rules) → IsSought rules also → AreWellFormed rules → AreWellFormed also
well_formed rules also s h =
    subst AreWellFormed (as_other rules also s) (well_formed_also rules also.own also.inherited (sought_other rules also s) h)

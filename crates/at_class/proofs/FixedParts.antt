-- What is fixed in components changes neither names nor superclasses nor shapes, so that all which holds by these goes on holding.
use Rattle.std.proofs.Common.{◌≡◌, ℕ, Bool, not, zero, suc, ◌<◌, true, false, arith, get_or, List, [], ◌∷◌, ◌++◌, length, map, reverse, Option, Some, None, refl, sym, ap, ◌∙◌, subst, option_and_then, option_map}
use Rattle.std.specs.Prelude.{All, IfSome, nat_eq, position, slice_set}
use Rattle.std.specs.List.{flat_map, list_any, slice_get, AllByRecursion}
use Rattle.std.specs.Str.{bytes_eq}
use Rattle.std.proofs.lemmas.List.Elements.{recursion_from_All, All-from_recursion}
use Rattle.std.proofs.lemmas.Option.{slice_get-map}
use Rattle.std.proofs.lemmas.List.{length-map}
use Rattle.std.proofs.lemmas.List.Concat.{flat_map-cons}
use Rattle.at_model.specs.Classes.{Classes, Class, Component, AreNamedApart, AreSound, IsClassSound, IsComponentSound, is_fixed, chain, chain_within, class_of_name, name_of, own_of, parent_of, parts}
use Rattle.at_model.specs.Declarations.{Declarations, Declaration, PartDeclaration, above, class_by, class_named, classes_of, component_by}
use Rattle.at_model.specs.Edits.{changed_at, is_fixed_part}
use Rattle.at_class.specs.Table.{HasNoneFixed}
use Rattle.at_model.specs.Paths.{ArePartsApart, part_named}
use Rattle.at_model.specs.SyntaxTrees.{Cell, CellIsTokens}
use Rattle.at_model.specs.WellFormed.{IsHierarchy}
use Rattle.at_class.specs.Fixing.{Fixed, IsWritten, with_cell, with_part, with_fixed, fixed_as}
use Rattle.at_class.proofs.Named.{position-map}

-- without what is fixed
abbrev bare_part : Component → Component
bare_part p = record { name = p.name; shape = p.shape; fixed = None }

abbrev bare_class : Class → Class
bare_class k = record { name = k.name; is_abstract = k.is_abstract; parent = k.parent; own = map bare_part k.own }

abbrev bare : Classes → Classes
bare classes = map bare_class classes

map_changed : {A B : Type 0} (f : A → B) (g : A → A) (xs : List A) (i : ℕ) → ((x : A) → f (g x) ≡ f x) → map f (changed_at g xs i) ≡ map f xs
map_changed f g [] i same = refl
map_changed f g (x ∷ xs) zero same = ap (λ y. y ∷ map f xs) (same x)
map_changed f g (x ∷ xs) (suc i) same = ap (λ ys. f x ∷ ys) (map_changed f g xs i same)

bare_changed : (part : ℕ) (c : Cell) (k : Class) → bare_class (with_part part c k) ≡ bare_class k
bare_changed part c k = ap (λ ps. record { name = k.name; is_abstract = k.is_abstract; parent = k.parent; own = ps }) (map_changed bare_part (with_cell c) k.own part (λ p. refl))

bare_fixed : (fs : List Fixed) (classes : Classes) → bare (fixed_as fs classes) ≡ bare classes
bare_fixed [] classes = refl
bare_fixed (f ∷ fs) classes = bare_fixed fs (with_fixed f classes) ∙ map_changed bare_class (with_part f.part f.cell) classes f.class (bare_changed f.part f.cell)

-- superclasses, chains and names are those without what is fixed
parent_bare : (classes : Classes) (c : ℕ) → parent_of (bare classes) c ≡ parent_of classes c
parent_bare classes c = ap (option_and_then (λ (k : Class). k.parent)) (slice_get-map bare_class classes c) ∙ by_class (slice_get classes c)
  where
    by_class : (o : Option Class) → option_and_then (λ (k : Class). k.parent) (option_map bare_class o) ≡ option_and_then (λ (k : Class). k.parent) o
    by_class None = refl
    by_class (Some k) = refl

chain_bare : (n : ℕ) (classes : Classes) (o : Option ℕ) → chain_within n (bare classes) o ≡ chain_within n classes o
chain_bare zero classes o = refl
chain_bare (suc n) classes None = refl
chain_bare (suc n) classes (Some c) = ap (λ cs. c ∷ cs) (ap (chain_within n (bare classes)) (parent_bare classes c) ∙ chain_bare n classes (parent_of classes c))

above_bare : (classes : Classes) (c : ℕ) → above (bare classes) c ≡ above classes c
above_bare classes c =
    ap (λ n. chain_within n (bare classes) (parent_of (bare classes) c)) (length-map classes bare_class)
    ∙ ap (chain_within (length classes) (bare classes)) (parent_bare classes c) ∙ chain_bare (length classes) classes (parent_of classes c)

name_bare : (classes : Classes) (c : ℕ) → name_of (bare classes) c ≡ name_of classes c
name_bare classes c = ap (λ (o : Option Class). elim o [ None ↦ [] | Some k ↦ k.name ]) (slice_get-map bare_class classes c) ∙ by_class (slice_get classes c)
  where
    by_class : (o : Option Class) → elim (option_map bare_class o) as (λ _. List ℕ) [ None ↦ [] | Some k ↦ k.name ] ≡ elim o as (λ _. List ℕ) [ None ↦ [] | Some k ↦ k.name ]
    by_class None = refl
    by_class (Some k) = refl

own_bare : (classes : Classes) (c : ℕ) → own_of (bare classes) c ≡ map bare_part (own_of classes c)
own_bare classes c = ap (λ (o : Option Class). elim o [ None ↦ [] | Some k ↦ k.own ]) (slice_get-map bare_class classes c) ∙ by_class (slice_get classes c)
  where
    by_class : (o : Option Class) → elim (option_map bare_class o) as (λ _. List Component) [ None ↦ [] | Some k ↦ k.own ]
        ≡ map bare_part (elim o as (λ _. List Component) [ None ↦ [] | Some k ↦ k.own ])
    by_class None = refl
    by_class (Some k) = refl

map_joined : {A B : Type 0} (f : A → B) (xs ys : List A) → map f (xs ++ ys) ≡ map f xs ++ map f ys
map_joined f [] ys = refl
map_joined f (x ∷ xs) ys = ap (λ zs. f x ∷ zs) (map_joined f xs ys)

all_bare : (classes : Classes) (cs : List ℕ) → flat_map (own_of (bare classes)) cs ≡ map bare_part (flat_map (own_of classes) cs)
all_bare classes [] = refl
all_bare classes (c ∷ cs) =
    flat_map-cons (own_of (bare classes)) c cs ∙ (λ i. own_bare classes c i ++ all_bare classes cs i)
    ∙ sym (map_joined bare_part (own_of classes c) (flat_map (own_of classes) cs)) ∙ ap (map bare_part) (sym (flat_map-cons (own_of classes) c cs))

chains_bare : (classes : Classes) (c : ℕ) → chain (bare classes) c ≡ chain classes c
unfolding chain
chains_bare classes c = ap (λ n. chain_within n (bare classes) (Some c)) (length-map classes bare_class) ∙ chain_bare (length classes) classes (Some c)

parts_bare : (classes : Classes) (c : ℕ) → parts (bare classes) c ≡ map bare_part (parts classes c)
parts_bare classes c = ap (λ cs. flat_map (own_of (bare classes)) (reverse cs)) (chains_bare classes c) ∙ all_bare classes (reverse (chain classes c))

-- a hierarchy
hierarchy_to : (classes : Classes) → IsHierarchy classes → IsHierarchy (bare classes)
hierarchy_to classes h = record {
  parents = λ c. subst (λ o. IfSome o (λ b. b < length (bare classes))) (sym (parent_bare classes c)) (subst (λ n. IfSome (parent_of classes c) (λ b. b < n)) (sym (length-map classes bare_class)) (h.parents c));
  no_circle = λ c less. ap (list_any (nat_eq c)) (above_bare classes c) ∙ h.no_circle c (subst (λ n. c < n) (length-map classes bare_class) less);
}

hierarchy_back : (classes : Classes) → IsHierarchy (bare classes) → IsHierarchy classes
hierarchy_back classes h = record {
  parents = λ c. subst (λ n. IfSome (parent_of classes c) (λ b. b < n)) (length-map classes bare_class) (subst (λ o. IfSome o (λ b. b < length (bare classes))) (parent_bare classes c) (h.parents c));
  no_circle = λ c less. sym (ap (list_any (nat_eq c)) (above_bare classes c)) ∙ h.no_circle c (subst (λ n. c < n) (sym (length-map classes bare_class)) less);
}

pub fixed_hierarchy : (fs : List Fixed) (classes : Classes) → IsHierarchy classes → IsHierarchy (fixed_as fs classes)
fixed_hierarchy fs classes h = hierarchy_back (fixed_as fs classes) (subst IsHierarchy (sym (bare_fixed fs classes)) (hierarchy_to classes h))

-- components with names of their own
apart_to : (classes : Classes) → ArePartsApart classes → ArePartsApart (bare classes)
apart_to classes h c part p is =
    let at' : option_map bare_part (slice_get (parts classes c) part) ≡ Some p = sym (slice_get-map bare_part (parts classes c) part) ∙ ap (λ ps. slice_get ps part) (sym (parts_bare classes c)) ∙ is in
    by_part (slice_get (parts classes c) part) refl at'
  where
    by_part : (o : Option Component) → slice_get (parts classes c) part ≡ o → option_map bare_part o ≡ Some p → part_named (bare classes) c p.name ≡ Some part
    by_part None there e = absurd cc
    by_part (Some q) there e =
        let same : bare_part q ≡ p = cc in
        subst (λ (x : Component). part_named (bare classes) c x.name ≡ Some part) same
        (ap (position (λ x. bytes_eq x.name q.name)) (parts_bare classes c) ∙ position-map (λ (x : Component). bytes_eq x.name q.name) bare_part (parts classes c) ∙ h c part q there)

apart_back : (classes : Classes) → ArePartsApart (bare classes) → ArePartsApart classes
apart_back classes h c part p is =
    sym (ap (position (λ x. bytes_eq x.name p.name)) (parts_bare classes c) ∙ position-map (λ (x : Component). bytes_eq x.name p.name) bare_part (parts classes c))
    ∙ h c part (bare_part p) (ap (λ ps. slice_get ps part) (parts_bare classes c) ∙ slice_get-map bare_part (parts classes c) part ∙ ap (option_map bare_part) is)

pub fixed_apart : (fs : List Fixed) (classes : Classes) → ArePartsApart classes → ArePartsApart (fixed_as fs classes)
fixed_apart fs classes h = apart_back (fixed_as fs classes) (subst ArePartsApart (sym (bare_fixed fs classes)) (apart_to classes h))

-- sound classes, where what is fixed can be written
all_changed : {A : Type 0} (P : A → Type 0) (g : A → A) → ((x : A) → P x → P (g x)) → (xs : List A) (i : ℕ) → AllByRecursion P xs → AllByRecursion P (changed_at g xs i)
all_changed P g keeps [] i h = tt
all_changed P g keeps (x ∷ xs) zero h = (keeps x h.0, h.1)
all_changed P g keeps (x ∷ xs) (suc i) h = (h.0, all_changed P g keeps xs i h.1)

length_changed : {A : Type 0} (g : A → A) (xs : List A) (i : ℕ) → length (changed_at g xs i) ≡ length xs
length_changed g [] i = refl
length_changed g (x ∷ xs) zero = refl
length_changed g (x ∷ xs) (suc i) = ap suc (length_changed g xs i)

module _ (f : Fixed) (written : CellIsTokens f.cell) where
  class_fixed : (n : ℕ) (k : Class) → IsClassSound n k → IsClassSound n (with_part f.part f.cell k)
  class_fixed n k s = record {
    name = s.name;
    parent = s.parent;
    own = All-from_recursion (IsComponentSound n) _ (all_changed (IsComponentSound n) (with_cell f.cell)
        (λ p h. record { name = h.name; within = h.within; fixed = written }) k.own f.part (recursion_from_All (IsComponentSound n) k.own s.own));
  }

  one_sound : (classes : Classes) → AreSound classes → AreSound (with_fixed f classes)
  one_sound classes s =
      let count = length_changed (with_part f.part f.cell) classes f.class in record {
        some = subst (λ n. 0 < n) (sym count) s.some;
        each = subst (λ n. All (IsClassSound n) (with_fixed f classes)) (sym count) (All-from_recursion (IsClassSound (length classes)) _
            (all_changed (IsClassSound (length classes)) (with_part f.part f.cell) (class_fixed (length classes)) classes f.class
            (recursion_from_All (IsClassSound (length classes)) classes s.each)));
        distinct = named_back (with_fixed f classes) (subst AreNamedApart (sym (map_changed bare_class (with_part f.part f.cell) classes f.class (bare_changed f.part f.cell))) (named_to classes s.distinct));
      }
    where
      found_bare : (classes : Classes) (name : List ℕ) → class_of_name (bare classes) name ≡ class_of_name classes name
      found_bare classes name = position-map (λ (k : Class). bytes_eq name k.name) bare_class classes

      named_to : (classes : Classes) → AreNamedApart classes → AreNamedApart (bare classes)
      named_to classes h c less =
          ap (class_of_name (bare classes)) (name_bare classes c) ∙ found_bare classes (name_of classes c) ∙ h c (subst (λ n. c < n) (length-map classes bare_class) less)

      named_back : (classes : Classes) → AreNamedApart (bare classes) → AreNamedApart classes
      named_back classes h c less =
          sym (ap (class_of_name (bare classes)) (name_bare classes c) ∙ found_bare classes (name_of classes c)) ∙ h c (subst (λ n. c < n) (sym (length-map classes bare_class)) less)

pub fixed_sound : (fs : List Fixed) (classes : Classes) → AllByRecursion IsWritten fs → AreSound classes → AreSound (fixed_as fs classes)
fixed_sound [] classes written s = s
fixed_sound (f ∷ fs) classes written s = fixed_sound fs (with_fixed f classes) written.1 (one_sound f written.0 classes s)

names_one : (f : Fixed) (classes : Classes) → map (λ (k : Class). k.name) (with_fixed f classes) ≡ map (λ (k : Class). k.name) classes
names_one f classes = map_changed (λ (k : Class). k.name) (with_part f.part f.cell) classes f.class (λ k. refl)

pub fixed_names : (fs : List Fixed) (classes : Classes) → map (λ (k : Class). k.name) (fixed_as fs classes) ≡ map (λ (k : Class). k.name) classes
fixed_names [] classes = refl
fixed_names (f ∷ fs) classes = fixed_names fs (with_fixed f classes) ∙ names_one f classes

-- one element is set to its change
pub set_changed : {A B : Type 0} (v : A → B) (g : B → B) (xs : List A) (i : ℕ) (x y : A) → i < length xs → get_or xs i x ≡ x → v y ≡ g (v x)
    → map v (slice_set xs i y) ≡ changed_at g (map v xs) i
set_changed v g [] i x y less is e = absurd (omega (arith, less))
set_changed v g (z ∷ zs) zero x y less is e = ap (λ w. w ∷ map v zs) (e ∙ ap (λ w. g (v w)) (sym is))
set_changed v g (z ∷ zs) (suc i) x y less is e = ap (λ ws. v z ∷ ws) (set_changed v g zs i x y (omega (arith, less)) is e)

-- where there is no element nothing is changed
pub past_all_changed : {A B : Type 0} (v : A → B) (g : B → B) (xs : List A) (i : ℕ) → (i < length xs → false ≡ true) → changed_at g (map v xs) i ≡ map v xs
past_all_changed v g [] i none = refl
past_all_changed v g (x ∷ xs) zero none = absurd (no_truth (none (omega arith)))
  where
    no_truth : false ≡ true → ⊥
    no_truth e = absurd cc
past_all_changed v g (x ∷ xs) (suc i) none = ap (λ ys. v x ∷ ys) (past_all_changed v g xs i (λ less. none (omega (arith, less))))

-- one more is fixed, behind the others
pub fixed_more : (fs : List Fixed) (f : Fixed) (classes : Classes) → fixed_as (fs ++ f ∷ []) classes ≡ with_fixed f (fixed_as fs classes)
fixed_more [] f classes = refl
fixed_more (g ∷ fs) f classes = fixed_more fs f (with_fixed g classes)

pub written_more : (fs : List Fixed) (f : Fixed) → AllByRecursion IsWritten fs → IsWritten f → AllByRecursion IsWritten (fs ++ f ∷ [])
written_more [] f h k = (k, tt)
written_more (g ∷ fs) f h k = (h.0, written_more fs f h.1 k)

-- the classes that a grammar declares have nothing fixed
bare_declared : (ds : Declarations) → bare (classes_of ds) ≡ classes_of ds
unfolding classes_of
bare_declared ds = each (class_named ds) ds
  where
    parts_same : (named : List ℕ → Option ℕ) (ps : List PartDeclaration) → map bare_part (map (component_by named) ps) ≡ map (component_by named) ps
    parts_same named [] = refl
    parts_same named (p ∷ ps) = ap (λ qs. component_by named p ∷ qs) (parts_same named ps)

    each : (named : List ℕ → Option ℕ) (xs : List Declaration) → map bare_class (map (class_by named) xs) ≡ map (class_by named) xs
    each named [] = refl
    each named (d ∷ xs) = λ i. record { name = d.name; is_abstract = d.is_abstract; parent = option_and_then named d.parent; own = parts_same named d.parts i } ∷ each named xs i

bare_none : (classes : Classes) (c part : ℕ) → is_fixed_part (bare classes) c part ≡ false
bare_none classes c part =
    ap (λ (ps : List Component). elim (slice_get ps part) as (λ _. Bool) [ None ↦ false | Some p ↦ is_fixed p ]) (parts_bare classes c)
    ∙ ap (λ (o : Option Component). elim o as (λ _. Bool) [ None ↦ false | Some p ↦ is_fixed p ]) (slice_get-map bare_part (parts classes c) part)
    ∙ by_part (slice_get (parts classes c) part)
  where
    by_part : (o : Option Component) → elim (option_map bare_part o) as (λ _. Bool) [ None ↦ false | Some p ↦ is_fixed p ] ≡ false
    by_part None = refl
    by_part (Some p) = refl

pub none_fixed : (ds : Declarations) → HasNoneFixed (classes_of ds)
none_fixed ds c part = subst (λ classes. is_fixed_part classes c part ≡ false) (bare_declared ds) (bare_none (classes_of ds) c part)

-- and so where none are to be fixed
pub none_given : (ds : Declarations) (fs : List Fixed) → length fs ≡ 0 → HasNoneFixed (fixed_as fs (classes_of ds))
none_given ds [] e = none_fixed ds
none_given ds (f ∷ fs) e = absurd (omega (arith, e))

pub not_off : (b : Bool) → not b ≡ false → b ≡ true
not_off true e = refl
not_off false e = absurd cc

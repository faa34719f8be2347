-- The names of all components against the accessors of each class.
use Rattle.std.proofs.Common.{◌≡◌, ◌≢◌, ℕ, zero, suc, ◌+◌, ◌<◌, ◌≤◌, length, drop, get_or, add-one, arith, Bool, true, false, ◌||◌, ◌&&◌, cond, List, [], ◌∷◌, ◌++◌, map, codes, position, refl, ap, subst, sym, ◌∙◌, Option, Some, None, is_some, option_map}
use Rattle.std.proofs.Math.Seq.{drop-cons}
use Rattle.std.proofs.lemmas.List.{drop_all, append_cancel_left, append_cancel_right}
use Rattle.std.proofs.lemmas.List.Folds.{list_any-append}
use Rattle.std.proofs.lemmas.List.Quantifiers.{position-Some}
use Rattle.std.proofs.lemmas.Iterator.Adapters.{position_from-zero}
use Rattle.std.proofs.lemmas.Slice.Eq.{bytes_eq-Decides}
use Rattle.std.proofs.lemmas.Bool.Decides.{same_from_decides}
use Rattle.std.specs.Borrow.{Bor}
use Rattle.std.specs.List.{list_any, slice_get, position_from}
use Rattle.std.specs.Option.{option_or}
use Rattle.std.specs.Str.{bytes_eq}
use Rattle.indexmap.specs.IndexSet.{insert_key}
use Rattle.at_model.specs.Classes.{Classes, Component, parts}
use Rattle.at_model.specs.Declarations.{first_given}
use Rattle.at_model.proofs.Options.{or_false, not_true}
use Rattle.at_typing.specs.AccessorNames.{same_name, any_class, any_part, any_component, any_optional, any_list, is_of_shape, HasNames, AddsNames}
use Rattle.at_kinds.specs.Accessors.{is_optional, is_list, is_got, is_had, is_counted, is_listed, shape_of, getter, got_or, accessor_named, is_accessed}
use Rattle.at_kinds.specs.declared.accessors.Accessor.{Accessor}
use Rattle.at_kinds.specs.declared.accessors.Accessor.TheVariants as accessor
use Rattle.at_typing.specs.declared.checks.accessor_names.Accessors.{Accessors}

ap2 : {A B C : Type 0} (f : A → B → C) {a b : A} {x y : B} → a ≡ b → x ≡ y → f a x ≡ f b y
ap2 f {a} {b} {x} {y} h k = ap (λ z. f z x) h ∙ ap (f b) k

next : (n : ℕ) → suc n ≡ n + 1
next n = omega arith

assoc : (a b c : List ℕ) → (a ++ b) ++ c ≡ a ++ (b ++ c)
assoc [] b c = refl
assoc (x ∷ xs) b c = ap (λ ys. x ∷ ys) (assoc xs b c)

or-assoc : (a b c : Bool) → ((a || b) || c) ≡ (a || (b || c))
or-assoc true b c = refl
or-assoc false b c = refl

-- tests of names ------------------------------------------------------------------------------------------------------

never : {A : Type 0} (p : A → Bool) (ks : List A) → ((k : A) → p k ≡ false) → false ≡ list_any p ks
never p [] fails = refl
never p (k ∷ ks) fails = never p ks fails ∙ ap (λ b. b || list_any p ks) (sym (fails k))

same_any : {A : Type 0} (p q : A → Bool) (ks : List A) → ((k : A) → p k ≡ q k) → list_any p ks ≡ list_any q ks
same_any p q [] same = refl
same_any p q (k ∷ ks) same = ap (λ b. b || list_any p ks) (same k) ∙ ap (λ b. q k || b) (same_any p q ks same)

-- the name doesn't begin so
pub none_behind : (name front : List ℕ) (ks : List (Bor (List ℕ))) → ((rest : List ℕ) → name ≢ front ++ rest) → false ≡ list_any (λ k. bytes_eq name (front ++ k.now)) ks
none_behind name front ks fails = never (λ (k : Bor (List ℕ)). bytes_eq name (front ++ k.now)) ks (λ k. not_true _ (λ h. fails k.now ((bytes_eq-Decides name (front ++ k.now)).0 h)))

pub none_around : (name front back : List ℕ) (ks : List (Bor (List ℕ))) → ((rest : List ℕ) → name ≢ front ++ rest) → false ≡ list_any (λ k. bytes_eq name (front ++ k.now ++ back)) ks
none_around name front back ks fails = never
    (λ (k : Bor (List ℕ)). bytes_eq name (front ++ k.now ++ back)) ks (λ k. not_true
    _ (λ h. fails (k.now ++ back) ((bytes_eq-Decides name (front ++ k.now ++ back)).0 h ∙ assoc front k.now back)))

-- what stands behind it
behind : (name front rest k back : List ℕ) → name ≡ front ++ rest → bytes_eq name (front ++ k ++ back) ≡ true → rest ≡ k ++ back
behind name front rest k back is h = append_cancel_left front rest (k ++ back) (sym is ∙ (bytes_eq-Decides name (front ++ k ++ back)).0 h ∙ assoc front k back)

-- it does, and doesn't end so
pub none_before : (name front rest back : List ℕ) (ks : List (Bor (List ℕ))) → name ≡ front ++ rest
    → ((list : List ℕ) → rest ≢ list ++ back) → false ≡ list_any (λ k. bytes_eq name (front ++ k.now ++ back)) ks
none_before name front rest back ks is fails = never (λ (k : Bor (List ℕ)). bytes_eq name (front ++ k.now ++ back)) ks (λ k. not_true _ (λ h. fails k.now (behind name front rest k.now back is h)))

-- it does both
pub between : (name front rest list back : List ℕ) (ks : List (Bor (List ℕ))) → name ≡ front ++ rest → rest ≡ list
    ++ back → list_any (λ k. bytes_eq list k.now) ks ≡ list_any (λ k. bytes_eq name (front ++ k.now ++ back)) ks
between name front rest list back ks is ends =
    same_any (λ (k : Bor (List ℕ)). bytes_eq list k.now) (λ (k : Bor (List ℕ)). bytes_eq name (front ++ k.now ++ back))
    ks (λ k. same_from_decides _ _ (bytes_eq-Decides list k.now) (
      (λ h. append_cancel_right list k.now back (sym ends ∙ behind name front rest k.now back is h)),
      (λ h. (bytes_eq-Decides name (front ++ k.now ++ back)).1 (is ∙ ap (λ r. front ++ r) (ends ∙ ap (λ l. l ++ back) h) ∙ sym (assoc front k.now back))),
    ))

-- one of them stands behind it
pub one_behind : (name front rest : List ℕ) (ks : List (Bor (List ℕ))) → name ≡ front ++ rest → list_any (λ k. bytes_eq rest k.now) ks ≡ list_any (λ k. bytes_eq name (front ++ k.now)) ks
one_behind name front rest ks is = same_any (λ (k : Bor (List ℕ)). bytes_eq rest k.now) (λ (k : Bor (List ℕ)).
    bytes_eq name (front ++ k.now)) ks (λ k. same_from_decides _ _ (bytes_eq-Decides rest k.now) (
      (λ h. append_cancel_left front rest k.now (sym is ∙ (bytes_eq-Decides name (front ++ k.now)).0 h)),
      (λ h. (bytes_eq-Decides name (front ++ k.now)).1 (is ∙ ap (λ r. front ++ r) h)),
    ))

-- names that are added ------------------------------------------------------------------------------------------------

absorbs : (t x a : Bool) → x ≡ t → (x || a) ≡ ((x || a) || t)
absorbs t true a h = refl
absorbs t false a h = rw (sym h) (sym (or_false a))

-- a key that is there already
present : (test : List ℕ → Bool) (keys : List (Bor (List ℕ))) (k : Bor (List ℕ)) → list_any (same_name k) keys ≡ true
    → list_any (λ k. test k.now) keys ≡ (list_any (λ k. test k.now) keys || test k.now)
present test [] k h = absurd cc
present test (x ∷ xs) k h = cases (present test xs k) (same_name k x) refl
  where
    cases : (list_any (same_name k) xs ≡ true → list_any (λ k. test k.now) xs
        ≡ (list_any (λ k. test k.now) xs || test k.now)) → (b : Bool) → same_name k x ≡ b
        → (test x.now || list_any (λ k. test k.now) xs) ≡ ((test x.now || list_any (λ k. test k.now) xs) || test k.now)
    cases rest true is = absorbs (test k.now) (test x.now) (list_any (λ k. test k.now) xs) (ap test (sym ((bytes_eq-Decides k.now x.now).0 is)))
    cases rest false is = ap (λ b. test x.now || b) (rest (ap (λ b. b || list_any (same_name k) xs) (sym is) ∙ h)) ∙ sym (or-assoc (test x.now) (list_any (λ k. test k.now) xs) (test k.now))

inserted : (test : List ℕ → Bool) (keys : List (Bor (List ℕ))) (k : Bor (List ℕ)) → list_any (λ k. test k.now) (insert_key same_name keys k) ≡ (list_any (λ k. test k.now) keys || test k.now)
inserted test keys k = cases (list_any (same_name k) keys) refl
  where
    cases : (b : Bool) → list_any (same_name k) keys ≡ b → list_any (λ k. test k.now) (insert_key same_name keys k) ≡ (list_any (λ k. test k.now) keys || test k.now)
    cases true is = rw is (present test keys k is)
    cases false is = rw is (list_any-append (λ k. test k.now) keys (k ∷ []) ∙ ap (λ b. list_any (λ k. test k.now) keys || b) (or_false (test k.now)))

inserted_where : (b : Bool) (test : List ℕ → Bool) (keys new : List (Bor (List ℕ))) (k : Bor (List ℕ))
    → new ≡ cond b (insert_key same_name keys k) keys
    → list_any (λ k. test k.now) new ≡ (list_any (λ k. test k.now) keys || (b && test k.now))
inserted_where true test keys new k is = ap (list_any (λ k. test k.now)) is ∙ inserted test keys k
inserted_where false test keys new k is = ap (list_any (λ k. test k.now)) is ∙ sym (or_false _)

pub adds_one : (p : Component) (k : Bor (List ℕ)) (old new : Accessors) → k.now ≡ p.name
    → new.components.texts.keys ≡ insert_key same_name old.components.texts.keys k
    → new.optionals.texts.keys ≡ cond (is_optional p.shape) (insert_key same_name old.optionals.texts.keys k) old.optionals.texts.keys
    → new.lists.texts.keys ≡ cond (is_list p.shape) (insert_key same_name old.lists.texts.keys k) old.lists.texts.keys
    → AddsNames (p ∷ []) old new
adds_one p k old new name cs os ls = record {
  components = λ test. ap (list_any (λ k. test k.now)) cs ∙ inserted test old.components.texts.keys k ∙ ap (λ b. any_component old test || b) (ap test name ∙ sym (or_false _));
  optionals = λ test. inserted_where (is_optional p.shape) test old.optionals.texts.keys new.optionals.texts.keys k os
      ∙ ap (λ b. any_optional old test || b) (ap (λ n. is_optional p.shape && test n) name ∙ sym (or_false _));
  lists = λ test. inserted_where (is_list p.shape) test old.lists.texts.keys new.lists.texts.keys k ls ∙ ap (λ b. any_list old test || b) (ap (λ n. is_list p.shape && test n) name ∙ sym (or_false _));
}

-- one by one ----------------------------------------------------------------------------------------------------------

-- all are added where these still are
pub record AddsLeft (rest all : List Component) (old new : Accessors) : Type 0 where
  pub components : (test : List ℕ → Bool) → (any_component new test || list_any (λ p. test p.name) rest) ≡ (any_component old test || list_any (λ p. test p.name) all)
  pub optionals : (test : List ℕ → Bool) → (any_optional new test || list_any (λ p. is_optional p.shape && test p.name)
      rest) ≡ (any_optional old test || list_any (λ p. is_optional p.shape && test p.name) all)
  pub lists : (test : List ℕ → Bool) → (any_list new test || list_any (λ p. is_list p.shape && test p.name) rest) ≡ (any_list old test || list_any (λ p. is_list p.shape && test p.name) all)

shift : (now next f rest whole : Bool) → next ≡ (now || f) → (now || (f || rest)) ≡ whole → (next || rest) ≡ whole
shift now next f rest whole is so = ap (λ b. b || rest) is ∙ or-assoc now f rest ∙ so

adds_next : (p : Component) (rest all : List Component) (old mid new : Accessors) → AddsLeft (p ∷ rest) all old mid → AddsNames (p ∷ []) mid new → AddsLeft rest all old new
adds_next p rest all old mid new left adds = record {
  components = λ test. shift (any_component mid test) _ _ _ _ (adds.components test ∙ ap (λ b. any_component mid test || b) (or_false _)) (left.components test);
  optionals = λ test. shift (any_optional mid test) _ _ _ _ (adds.optionals test ∙ ap (λ b. any_optional mid test || b) (or_false _)) (left.optionals test);
  lists = λ test. shift (any_list mid test) _ _ _ _ (adds.lists test ∙ ap (λ b. any_list mid test || b) (or_false _)) (left.lists test);
}

pub adds_more : {X : Type 0} (v : X → Component) (xs : List X) (i : ℕ) (x : X) (all : List Component) (old mid new : Accessors) → i < length xs → x ≡ get_or xs i x
    → AddsLeft (map v (drop i xs)) all old mid → AddsNames (v x ∷ []) mid new → AddsLeft (map v (drop (i + 1) xs)) all old new
adds_more v xs i x all old mid new less is left adds =
    adds_next (v x) (map v (drop (i + 1) xs)) all old mid new (subst (λ ys. AddsLeft (map v ys) all old mid)
    (drop-cons xs i x less ∙ ap2 (λ y ys. y ∷ ys) (sym is) (ap (λ n. drop n xs) (next i))) left) adds

pub adds_end : {X : Type 0} (v : X → Component) (xs : List X) (i : ℕ) (all : List Component) (old new : Accessors) → length xs ≤ i → AddsLeft (map v (drop i xs)) all old new → AddsNames all old new
adds_end v xs i all old new past left = record {
  components = λ test. sym (or_false _) ∙ at_end.components test;
  optionals = λ test. sym (or_false _) ∙ at_end.optionals test;
  lists = λ test. sym (or_false _) ∙ at_end.lists test;
}
  where
    at_end : AddsLeft [] all old new
    at_end = subst (λ ys. AddsLeft (map v ys) all old new) (drop_all i xs past) left

-- class by class ------------------------------------------------------------------------------------------------------

abbrev pub any_from : (Component → Bool) → Classes → ℕ → Bool
any_from test classes k = any_class (λ c. list_any test (parts classes c)) k (drop k classes)

from_next : (test : Component → Bool) (classes : Classes) (k : ℕ) → k < length classes → any_from test classes k ≡ (list_any test (parts classes k) || any_from test classes (k + 1))
from_next test [] k less = absurd (omega arith)
from_next test (x ∷ xs) k less = rw (drop-cons (x ∷ xs) k x less) (rw add-one refl)

from_end : (test : Component → Bool) (classes : Classes) (k : ℕ) → length classes ≤ k → any_from test classes k ≡ false
from_end test classes k past = ap (any_class (λ c. list_any test (parts classes c)) k) (drop_all k classes past)

-- they are the names where those of the classes from k on still are added
pub record HasLeft (classes : Classes) (k : ℕ) (a : Accessors) : Type 0 where
  pub components : (test : List ℕ → Bool) → (any_component a test || any_from (λ p. test p.name) classes k) ≡ any_part (λ p. test p.name) classes
  pub optionals : (test : List ℕ → Bool) → (any_optional a test || any_from (λ p. is_optional p.shape && test p.name) classes k) ≡ any_part (λ p. is_optional p.shape && test p.name) classes
  pub lists : (test : List ℕ → Bool) → (any_list a test || any_from (λ p. is_list p.shape && test p.name) classes k) ≡ any_part (λ p. is_list p.shape && test p.name) classes

pub has_more : (classes : Classes) (k : ℕ) (a b : Accessors) → k < length classes → HasLeft classes k a → AddsNames (parts classes k) a b → HasLeft classes (k + 1) b
has_more classes k a b less left adds = record {
  components = λ test. shift (any_component a test) _ _ _ _ (adds.components test) (ap (λ r. any_component a test || r) (sym (from_next _ classes k less)) ∙ left.components test);
  optionals = λ test. shift (any_optional a test) _ _ _ _ (adds.optionals test) (ap (λ r. any_optional a test || r) (sym (from_next _ classes k less)) ∙ left.optionals test);
  lists = λ test. shift (any_list a test) _ _ _ _ (adds.lists test) (ap (λ r. any_list a test || r) (sym (from_next _ classes k less)) ∙ left.lists test);
}

pub has_end : (classes : Classes) (k : ℕ) (a : Accessors) → length classes ≤ k → HasLeft classes k a → HasNames classes a
has_end classes k a past left = record {
  components = λ test. sym (or_false _) ∙ ap (λ r. any_component a test || r) (sym (from_end _ classes k past)) ∙ left.components test;
  optionals = λ test. sym (or_false _) ∙ ap (λ r. any_optional a test || r) (sym (from_end _ classes k past)) ∙ left.optionals test;
  lists = λ test. sym (or_false _) ∙ ap (λ r. any_list a test || r) (sym (from_end _ classes k past)) ∙ left.lists test;
}

pub has_none : (classes : Classes) (a : Accessors) → a.components.texts.keys ≡ [] → a.optionals.texts.keys ≡ [] → a.lists.texts.keys ≡ [] → HasLeft classes 0 a
has_none classes a cs os ls = record {
  components = λ test. ap (λ ks. list_any (λ (k : Bor (List ℕ)). test k.now) ks || any_from (λ p. test p.name) classes 0) cs;
  optionals = λ test. ap (λ ks. list_any (λ (k : Bor (List ℕ)). test k.now) ks || any_from (λ p. is_optional p.shape && test p.name) classes 0) os;
  lists = λ test. ap (λ ks. list_any (λ (k : Bor (List ℕ)). test k.now) ks || any_from (λ p. is_list p.shape && test p.name) classes 0) ls;
}

-- what accessors there are --------------------------------------------------------------------------------------------

position_any_from : {A : Type 0} (p : A → Bool) (i : ℕ) (xs : List A) → is_some (position_from p i xs) ≡ list_any p xs
position_any_from p i [] = refl
position_any_from p i (x ∷ xs) = cases (p x) (position_any_from p (i + 1) xs)
  where
    cases : (b : Bool) → is_some (position_from p (i + 1) xs) ≡ list_any p xs → is_some (cond b (Some i) (position_from p (i + 1) xs)) ≡ (b || list_any p xs)
    cases true h = refl
    cases false h = h

position_any : {A : Type 0} (p : A → Bool) (xs : List A) → is_some (position p xs) ≡ list_any p xs
position_any p xs = ap is_some (position_from-zero p xs) ∙ position_any_from p 0 xs

map_some : {A B : Type 0} (f : A → B) (o : Option A) → is_some (option_map f o) ≡ is_some o
map_some f None = refl
map_some f (Some x) = refl

or_some : {A : Type 0} (o p : Option A) → is_some (option_or o p) ≡ (is_some o || is_some p)
or_some None p = refl
or_some (Some x) p = refl

slice_some : {A : Type 0} (xs : List A) (i : ℕ) → i < length xs → is_some (slice_get xs i) ≡ true
slice_some [] i less = absurd (omega arith)
slice_some (x ∷ xs) zero less = refl
slice_some (x ∷ xs) (suc i) less = slice_some xs i (omega arith)

got_some : (ps : List Component) (other : Option Accessor) (o : Option ℕ) → ((i : ℕ) → o ≡ Some i → is_some (shape_of ps i) ≡ true) → is_some (got_or ps other o) ≡ (is_some o || is_some other)
got_some ps other None there = refl
got_some ps other (Some i) there = map_some (getter i) (shape_of ps i) ∙ there i refl

-- a class has an accessor of that name
accessor_any : (classes : Classes) (c : ℕ) (name : List ℕ) → is_some (accessor_named classes c name)
    ≡ (list_any (is_got name) (parts classes c) || (list_any (is_had name) (parts classes c) || (list_any (is_counted name) (parts classes c) || list_any (is_listed name) (parts classes c))))
accessor_any classes c name =
    got_some (parts classes c) _ (position (is_got name) (parts classes c)) (λ i is. there i is (parts classes c) refl)
    ∙ ap2 (λ x y. x || y) (position_any (is_got name) (parts classes c))
    (or_some (option_map accessor.Has (position (is_had name) (parts classes c))) _ ∙ ap2 (λ x y. x || y) (map_some accessor.Has _ ∙ position_any (is_had name) (parts classes c))
    (or_some (option_map accessor.Count (position (is_counted name) (parts classes c))) _ ∙ ap2 (λ x y. x || y)
    (map_some accessor.Count _ ∙ position_any (is_counted name) (parts classes c))
    (map_some accessor.List _ ∙ position_any (is_listed name) (parts classes c))))
  where
    there : (i : ℕ) → position (is_got name) (parts classes c) ≡ Some i → (ps : List Component) → ps ≡ parts classes c → is_some (shape_of (parts classes c) i) ≡ true
    there i is [] h = absurd (none (subst (λ ps. position (is_got name) ps ≡ Some i) (sym h) is))
      where
        none : None ≡ Some i → ⊥
        none e = cc
    there i is (p ∷ ps) h = map_some (λ (p : Component). p.shape) (slice_get (parts classes c) i) ∙ slice_some (parts classes c) i (position-Some (is_got name) (parts classes c) i p is).0

given_any : {B : Type 0} (g : ℕ → Option B) (test : ℕ → Bool) (k : ℕ) (classes : Classes) → ((c : ℕ) → is_some (g c) ≡ test c) → is_some (first_given (λ c x. g c) k classes) ≡ any_class test k classes
given_any g test k [] same = refl
given_any g test k (x ∷ xs) same = or_some (g k) _ ∙ ap2 (λ a b. a || b) (same k) (given_any g test (k + 1) xs same)

mix : (a b c d : Bool) → ((a || b) || (c || d)) ≡ ((a || c) || (b || d))
mix true b c d = refl
mix false true true d = refl
mix false true false d = refl
mix false false c d = refl

any_either : (f g : ℕ → Bool) (k : ℕ) (classes : Classes) → any_class (λ c. f c || g c) k classes ≡ (any_class f k classes || any_class g k classes)
any_either f g k [] = refl
any_either f g k (x ∷ xs) = ap (λ b. (f k || g k) || b) (any_either f g (k + 1) xs) ∙ mix (f k) (g k) (any_class f (k + 1) xs) (any_class g (k + 1) xs)

pub accessed_names : (classes : Classes) (a : Accessors) (name : List ℕ) → HasNames classes a
    → (any_component a (λ k. bytes_eq name (codes "get" ++ k)) || is_of_shape a name) ≡ is_accessed classes name
accessed_names classes a name has =
    ap2 (λ x y. x || y) (has.components (λ k. bytes_eq name (codes "get" ++ k))) (ap2 (λ x y. x || y)
    (has.optionals (λ k. bytes_eq name (codes "has" ++ k))) (ap2 (λ x y. x || y) (has.lists (λ k.
    bytes_eq name (codes "getNum" ++ k))) (has.lists (λ k. bytes_eq name (codes "get" ++ k ++ codes "List")))))
    ∙ sym (given_any (λ c. accessor_named classes c name) _ 0 classes (λ c. accessor_any classes c name)
    ∙ any_either (λ c. list_any (is_got name) (parts classes c)) _ 0 classes ∙ ap (λ b. any_part (is_got name) classes || b)
    (any_either (λ c. list_any (is_had name) (parts classes c)) _ 0 classes ∙ ap (λ b. any_part (is_had name) classes || b)
    (any_either (λ c. list_any (is_counted name) (parts classes c)) (λ c. list_any (is_listed name) (parts classes c)) 0 classes)))

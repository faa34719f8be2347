-- Of what declarations mean there is one of each, where they have no fault together.
use Rattle.std.proofs.Common.{◌≡◌, ℕ, zero, suc, ◌<◌, Bool, true, false, ◌&&◌, ◌||◌, List, [], ◌∷◌, length, take, Option, Some, None, Result, Ok, Err, IfOk, refl, sym, ap, ap₂, ◌∙◌, subst, true≢false, arith}
use Rattle.std.specs.Prelude.{nat_eq}
use Rattle.std.specs.List.{slice_get, list_any, filter_map, cons_option}
use Rattle.std.specs.Option.{option_eq}
use Rattle.std.specs.Str.{bytes_eq}
use Rattle.std.proofs.lemmas.Cmp.{nat_eq_equiv, nat_list_eq_equiv}
use Rattle.std.proofs.lemmas.Option.{none-some, slice_get_within, get_or_from_slice_get}
use Rattle.std.proofs.lemmas.Slice.Eq.{bytes_eq-Decides}
use Rattle.at_model.specs.Classes.{Classes, class_of_name, is_sub}
use Rattle.at_model.specs.Rules.{Rules, Attribute, OwnEquation, InheritedEquation}
use Rattle.at_model.proofs.Options.{and_true, or_right}
use Rattle.at_kinds.specs.declared.arguments.Arguments.{Arguments}
use Rattle.at_kinds.specs.Judging.{Judgement, Is, Wrong}
use Rattle.at_text.specs.declared.fault.Failure.{Failure}
use Rattle.at_typing.specs.Building.{Builds, IsFault, first_fault, meaning_if, meanings, rules_of}
use Rattle.at_typing.specs.Declaring.{accessor_named, clashes, class_text, declared_twice, disagrees, equation_twice, is_attribute, is_below, is_on_one_line, is_same_equation, is_sub_or_none, name_text, over_limit, without_attribute, fault_together}
use Rattle.at_typing.specs.Located.{Located}
use Rattle.at_typing.specs.Meanings.{Meaning, meant}
use Rattle.at_typing.specs.Single.{AreSingle}
use Rattle.at_typing.specs.declared.fault.Breach.{Breach}
use Rattle.at_typing.proofs.Gathering.{equal, first_none, no_clash, no_equation, not_both, or_left, other_none, said, same_inherited, same_own}
use Rattle.at_typing.proofs.of_attributes.InheritedAlike.{none_passes}
use Rattle.at_typing.proofs.MeaningParts.{OfAttribute, OfInherited, OfOwn, of_words}

-- what two parts were made of -------------------------------------------------------------------------------------------

-- two of a list, one before the other
pub record Pair {A B : Type 0} (f : A → Option B) (xs : List A) (a b : B) : Type 0 where
  pub first : ℕ
  pub second : ℕ
  pub before : A
  pub behind : A
  pub order : first < second
  pub first_there : slice_get xs first ≡ Some before
  pub second_there : slice_get xs second ≡ Some behind
  pub first_gives : f before ≡ Some a
  pub second_gives : f behind ≡ Some b

module _ {A B : Type 0} (f : A → Option B) where
  one_of : (xs : List A) (i : ℕ) (b : B) → slice_get (filter_map f xs) i ≡ Some b → (k : ℕ) × (x : A) × (slice_get xs k ≡ Some x) × (f x ≡ Some b)
  one_of [] i b is = absurd (none-some b is)
  one_of (x ∷ xs) i b is = by (f x) refl i is (one_of xs)
    where
      by : (o : Option B) → f x ≡ o → (i : ℕ) → slice_get (cons_option o (filter_map f xs)) i ≡ Some b
          → ((i : ℕ) (b : B) → slice_get (filter_map f xs) i ≡ Some b → (k : ℕ) × (y : A) × (slice_get xs k ≡ Some y)
          × (f y ≡ Some b)) → (k : ℕ) × (y : A) × (slice_get (x ∷ xs) k ≡ Some y) × (f y ≡ Some b)
      by None e i is rest = let (k, y, there, gives) = rest i b is in (suc k, y, there, gives)
      by (Some c) e zero is rest = (0, x, refl, e ∙ is)
      by (Some c) e (suc i) is rest = let (k, y, there, gives) = rest i b is in (suc k, y, there, gives)

  abbrev Pairs : List A → Type 0
  Pairs xs = (i j : ℕ) (a b : B) → i < j → slice_get (filter_map f xs) i ≡ Some a → slice_get (filter_map f xs) j ≡ Some b → Pair f xs a b

  pub pair_of : (xs : List A) → Pairs xs
  pair_of [] = λ i j a b less is at. absurd (none-some a is)
  pair_of (x ∷ xs) = λ i j a b less is at. by (f x) refl i j a b less is at (pair_of xs)
    where
      later : (a b : B) → Pair f xs a b → Pair f (x ∷ xs) a b
      later a b p = record {
        first = suc p.first;
        second = suc p.second;
        before = p.before;
        behind = p.behind;
        order = omega (arith, p.order);
        first_there = p.first_there;
        second_there = p.second_there;
        first_gives = p.first_gives;
        second_gives = p.second_gives;
      }

      by : (o : Option B) → f x ≡ o → (i j : ℕ) (a b : B) → i < j → slice_get (cons_option o (filter_map f xs)) i
          ≡ Some a → slice_get (cons_option o (filter_map f xs)) j ≡ Some b → Pairs xs → Pair f (x ∷ xs) a b
      by None e i j a b less is at rest = later a b (rest i j a b less is at)
      by (Some c) e i zero a b less is at rest = absurd (omega (arith, less))
      by (Some c) e zero (suc j) a b less is at rest =
          let (k, y, there, gives) = one_of xs j b at in
          record { first = 0; second = suc k; before = x; behind = y; order = omega arith; first_there = refl; second_there = there; first_gives = e ∙ is; second_gives = gives }
      by (Some c) e (suc i) (suc j) a b less is at rest = later a b (rest i j a b (omega (arith, less)) is at)

-- what two declarations mean ----------------------------------------------------------------------------------------------

is_meant : (j : Judgement Meaning) (m : Meaning) → meaning_if j ≡ Some m → j ≡ Is m
is_meant (Is n) m is = let e : n ≡ m = cc in ap Is e
is_meant (Wrong c at) m is = absurd (none-some m is)

module _ (allowed : Arguments) {A : Type 0} (classes : Classes) (ds : List Located) (part : Meaning → Option A) (Of : Located → A → Type 0)
    (of : (d : Located) (m : Meaning) (a : A) → meant allowed classes ds d ≡ Is m → part m ≡ Some a → Of d a)
    (test : A → A → Bool) (clash : Located → Located → Bool) (clashing : (d e : Located) (a b : A) → Of d a → Of e b → test a b ≡ true → clash e d ≡ true)
    (none : (j : ℕ) (e : Located) (b : A) → slice_get ds j ≡ Some e → Of e b → list_any (clash e) (take j ds) ≡ false) where
  -- where none clashes with one before it, of no two parts the test is true
  pub never_both : (i j : ℕ) (a b : A) → i < j → slice_get (filter_map part (meanings allowed classes ds ds)) i ≡ Some a
      → slice_get (filter_map part (meanings allowed classes ds ds)) j ≡ Some b → test a b ≡ false
  never_both i j a b less is at =
      let p = pair_of part (meanings allowed classes ds ds) i j a b less is at in
      let q = pair_of (λ d. meaning_if (meant allowed classes ds d)) ds p.first p.second p.before p.behind p.order
      p.first_there p.second_there in
      let of_a = of q.before p.before a (is_meant (meant allowed classes ds q.before) p.before q.first_gives)
      p.first_gives in
      let of_b = of q.behind p.behind b (is_meant (meant allowed classes ds q.behind) p.behind q.second_gives)
      p.second_gives in
      let apart : clash q.behind q.before ≡ false = none_passes (clash q.behind) ds q.first q.second q.before q.order q.first_there (none q.second q.behind b q.second_there of_b) in
      not_both (test a b) (λ so. true≢false (sym (clashing q.before q.behind a b of_a of_b so) ∙ apart))

-- attributes --------------------------------------------------------------------------------------------------------------

-- of one name, and on one line of classes
abbrev is_again : Classes → Attribute → Attribute → Bool
is_again classes a b = bytes_eq a.name b.name && (is_sub classes a.class b.class || is_sub classes b.class a.class)

clash_on_line : (allowed : Arguments) (classes : Classes) (d e : Located) (a b : Attribute) → OfAttribute classes d a → OfAttribute classes e b → is_again classes a b ≡ true → clashes allowed classes e d ≡ true
clash_on_line allowed classes d e a b of other so = by (bytes_eq a.name b.name) refl (is_sub classes a.class b.class) refl (is_sub classes b.class a.class) refl so
  where
    sub_there : (v w : List ℕ) (x y : ℕ) → class_of_name classes v ≡ Some x → class_of_name classes w ≡ Some y → is_sub classes x y ≡ true → is_below classes v w ≡ true
    sub_there v w x y is at sub = or_right (bytes_eq v w) (is_sub_or_none classes (class_of_name classes v) (class_of_name classes w)) (ap₂ (is_sub_or_none classes) is at ∙ sub)

    names : bytes_eq a.name b.name ≡ true → (is_attribute d.decl.form && bytes_eq (name_text e) (name_text d)) ≡ true
    names same = and_true (is_attribute d.decl.form) (bytes_eq (name_text e) (name_text d)) of.0
        (equal (name_text e) (name_text d) (sym other.2 ∙ sym ((bytes_eq-Decides a.name b.name).0 same) ∙ of.2))

    whole : bytes_eq a.name b.name ≡ true → is_on_one_line classes (class_text e) (class_text d) ≡ true → clashes allowed classes e d ≡ true
    whole same line = and_true (is_attribute d.decl.form && bytes_eq (name_text e) (name_text d))
        (disagrees allowed e.decl.form d.decl.form || is_on_one_line classes (class_text e) (class_text d)) (names same)
        (or_right (disagrees allowed e.decl.form d.decl.form) (is_on_one_line classes (class_text e) (class_text d)) line)

    by : (n : Bool) → bytes_eq a.name b.name ≡ n → (s : Bool) → is_sub classes a.class b.class ≡ s → (t : Bool)
        → is_sub classes b.class a.class ≡ t → (n && (s || t)) ≡ true → clashes allowed classes e d ≡ true
    by true n true s t u h = whole n (or_right (is_below classes (class_text e) (class_text d)) (is_below classes
        (class_text d) (class_text e)) (sub_there (class_text d) (class_text e) a.class b.class of.1 other.1 s))
    by true n false s true u h = whole n (or_left (is_below classes (class_text e) (class_text d)) (is_below classes
        (class_text d) (class_text e)) (sub_there (class_text e) (class_text d) b.class a.class other.1 of.1 u))
    by true n false s false u h = absurd (true≢false (sym h))
    by false n s r t u h = absurd (true≢false (sym h))

-- all of them ---------------------------------------------------------------------------------------------------------------

second_true : (n b : Bool) → n ≡ true → (n && b) ≡ false → b ≡ false
second_true true b is off = off
second_true false b is off = absurd (true≢false (sym is))

option_turned : (o p : Option ℕ) → option_eq nat_eq o p ≡ option_eq nat_eq p o
option_turned None None = refl
option_turned None (Some j) = refl
option_turned (Some i) None = refl
option_turned (Some i) (Some j) = nat_eq_equiv.symm i j

pub singles : (allowed : Arguments) (classes : Classes) (ds : List Located) → declared_twice allowed classes ds ≡ None
    → equation_twice ds ≡ None → AreSingle (rules_of allowed classes ds)
singles allowed classes ds once single = record {
  attributes = λ i j a b less is at name. second_true (bytes_eq a.name b.name) (is_sub classes a.class b.class || is_sub classes b.class a.class) name
      (never_both allowed classes ds (λ (m : Meaning). m.attribute) (OfAttribute classes)
      (λ d m a is there. said (OfAttribute classes d) m.attribute a there
      (of_words allowed classes ds d m is).attribute)
      (is_again classes) (clashes allowed classes) (clash_on_line allowed classes)
      (λ j e b there of. no_clash allowed classes ds j e (slice_get_within ds j e there) (sym (get_or_from_slice_get ds j e e there)) once of.0) i j a b less is at);
  own = never_both allowed classes ds (λ (m : Meaning). m.own) (OfOwn classes ds)
      (λ d m a is there. said (OfOwn classes ds d) m.own a there (of_words allowed classes ds d m is).own)
      (λ (e f : OwnEquation). nat_eq e.class f.class && nat_eq e.attribute f.attribute) is_same_equation
      (λ d e a b of other so. same_own classes ds e d b a other of (turned_own a b so))
      (λ j e b there of. no_equation ds j e (slice_get_within ds j e there) (sym (get_or_from_slice_get ds j e e there)) single);
  inherited = never_both allowed classes ds (λ (m : Meaning). m.inherited) (OfInherited classes) (λ d m a is there. said
      (OfInherited classes d) m.inherited a there (of_words allowed classes ds d m is).inherited)
      (λ (e f : InheritedEquation).
      (nat_eq e.class f.class && option_eq nat_eq e.part f.part) && bytes_eq e.name f.name) is_same_equation
      (λ d e a b of other so. same_inherited classes e d b a other of (turned_inherited a b so))
      (λ j e b there of. no_equation ds j e (slice_get_within ds j e there) (sym (get_or_from_slice_get ds j e e there)) single);
}
  where
    turned_own : (a b : OwnEquation) → (nat_eq a.class b.class && nat_eq a.attribute b.attribute) ≡ true → (nat_eq b.class a.class && nat_eq b.attribute a.attribute) ≡ true
    turned_own a b so = ap₂ (λ x y. x && y) (nat_eq_equiv.symm b.class a.class) (nat_eq_equiv.symm b.attribute a.attribute) ∙ so

    turned_inherited : (a b : InheritedEquation)
        → ((nat_eq a.class b.class && option_eq nat_eq a.part b.part) && bytes_eq a.name b.name) ≡ true
        → ((nat_eq b.class a.class && option_eq nat_eq b.part a.part) && bytes_eq b.name a.name) ≡ true
    turned_inherited a b so = ap₂ (λ x y. x && y) (ap₂ (λ x y. x && y) (nat_eq_equiv.symm b.class a.class) (option_turned b.part a.part)) (nat_list_eq_equiv.symm b.name a.name) ∙ so

-- rules that are built have one of each
pub single_if_ok : (allowed : Arguments) (classes : Classes) (ds : List Located) (r : Result Rules (Failure Breach))
    → Builds allowed classes ds r → IfOk r AreSingle
single_if_ok allowed classes ds (Ok rules) (fault, is) = by (first_fault allowed classes ds) refl fault
  where
    by : (o : Option Breach) → first_fault allowed classes ds ≡ o → IsFault allowed classes ds o None → AreSingle rules
    by None none lack =
        let together : fault_together allowed classes ds ≡ None = first_none (fault_together allowed classes ds) _ none in
        let behind_limit = other_none (over_limit ds) _ together in
        let behind_names = other_none (accessor_named classes ds) _ behind_limit in
        let behind_twice = other_none (declared_twice allowed classes ds) _ behind_names in
        subst AreSingle (sym is) (singles allowed classes ds (first_none (declared_twice allowed classes ds) _ behind_names)
        (other_none (without_attribute classes ds) _ behind_twice))
    by (Some f) some lack = absurd (none-some f lack)
single_if_ok allowed classes ds (Err e) built = tt

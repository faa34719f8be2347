-- What the declarations mean, gathered one by one: no key comes twice where the declarations have no fault together.
use Rattle.std.proofs.Common.{◌≡◌, ℕ, ◌+◌, ◌<◌, List, [], ◌∷◌, ◌++◌, length, map, take, get_or, refl, ap, ap₂, sym, ◌∙◌, subst, arith, true≢false, Option, Some, None, zero, suc, String, string_bytes, append-nil}
use Rattle.std.specs.Prelude.{Bool, true, false, ◌&&◌, ◌||◌, nat_eq, nat_lt, cond, option_map, IfSome}
use Rattle.std.specs.Global.{Global}
use Rattle.std.specs.List.{filter, filter_map, list_any, cons_option}
use Rattle.std.specs.Option.{option_eq, option_or}
use Rattle.std.specs.Str.{bytes_eq}
use Rattle.std.proofs.lemmas.Bool.{eqb-true, lt-ltb}
use Rattle.std.proofs.lemmas.Cmp.{nat_list_eq_equiv}
use Rattle.std.proofs.lemmas.List.{take_more, map-append}
use Rattle.std.proofs.lemmas.List.Elements.{filter_map-append}
use Rattle.std.proofs.lemmas.List.Quantifiers.{position-Some}
use Rattle.std.proofs.lemmas.Option.{none-some, slice_get-get_or}
use Rattle.std.proofs.lemmas.Slice.Eq.{bytes_eq-Decides}
use Rattle.indexmap.specs.IndexMap.{insert_entry}
use Rattle.at_model.specs.Classes.{Classes, class_of_name}
use Rattle.at_model.specs.Declarations.{first_given}
use Rattle.at_model.specs.Rules.{Attribute, OwnEquation, InheritedEquation}
use Rattle.at_model.proofs.Options.{and_true, or_right}
use Rattle.at_rules.specs.Names.{number_in}
use Rattle.at_rules.specs.RulesView.{attribute_view, own_view, inherited_view, named, text_of}
use Rattle.at_rules.specs.declared.body.Body.{Body as BodyValue}
use Rattle.at_rules.specs.declared.rules.Attribute.{Attribute as AttributeValue}
use Rattle.at_rules.specs.declared.rules.Equations.{Equations}
use Rattle.at_typing.specs.Building.{meaning_if, meanings}
use Rattle.at_typing.specs.Declaring.{fault_if, is_attribute, is_own_equation, getter_in, disagrees, is_on_one_line, is_below, is_sub_or_none, is_same_getter, clashes, is_same_equation, declared_twice, twice_at, equation_twice, equation_at, binds_twice, class_text, name_text}
use Rattle.at_kinds.specs.declared.arguments.Arguments.{Arguments}
use Rattle.at_kinds.specs.Judging.{Judgement, Is, Wrong}
use Rattle.at_typing.specs.Located.{Located}
use Rattle.at_typing.specs.Meanings.{Meaning, meant}
use Rattle.at_typing.specs.Ruling.{component_got}
use Rattle.at_typing.specs.Seen.{attribute_of, same_key, same_place, Added, inherited_of, meaning_of, attribute_by, inherited_by, with_entry, Inserts, Stands}
use Rattle.at_kinds.specs.declared.code.RuleCode.{RuleCode}
use Rattle.at_kinds.specs.declared.code.RuleCode.TheVariants as code
use Rattle.at_typing.proofs.MeaningParts.{OfAttribute, OfOwn, OfInherited, of_words, same_class_text, same_name_text, same_getter, first_of, second_of}

-- tests ----------------------------------------------------------------------------------------------------------------

or_true : (b : Bool) → (b || true) ≡ true
or_true true = refl
or_true false = refl

-- what passes the one test passes the other
any_too : {A : Type 0} (p q : A → Bool) → ((x : A) → p x ≡ true → q x ≡ true) → (xs : List A) → list_any p xs ≡ true → list_any q xs ≡ true
any_too p q too [] is = is
any_too p q too (x ∷ xs) is = by (p x) refl (any_too p q too xs) is
  where
    by : (b : Bool) → p x ≡ b → (list_any p xs ≡ true → list_any q xs ≡ true) → (b || list_any p xs) ≡ true → (q x || list_any q xs) ≡ true
    by true here rest any = ap (λ b. b || list_any q xs) (too x here)
    by false here rest any = ap (λ b. q x || b) (rest any) ∙ or_true (q x)

any_mapped : {A B : Type 0} (p : B → Bool) (f : A → B) (xs : List A) → list_any (λ x. p (f x)) xs ≡ list_any p (map f xs)
any_mapped p f [] = refl
any_mapped p f (x ∷ xs) = ap (λ b. p (f x) || b) (any_mapped p f xs)

abbrev pub passes : {A : Type 0} → (A → Bool) → Option A → Bool
passes p None = false
passes p (Some x) = p x

module _ {A B : Type 0} where
  any_given : (p : B → Bool) (f : A → Option B) (xs : List A) → list_any p (filter_map f xs) ≡ list_any (λ x. passes p (f x)) xs
  any_given p f [] = refl
  any_given p f (x ∷ xs) = by (f x) (any_given p f xs)
    where
      by : (o : Option B) → list_any p (filter_map f xs) ≡ list_any (λ x. passes p (f x)) xs → list_any p (cons_option o (filter_map f xs)) ≡ (passes p o || list_any (λ x. passes p (f x)) xs)
      by None rest = rest
      by (Some y) rest = ap (λ b. p y || b) rest

pub not_both : (b : Bool) → (b ≡ true → ⊥) → b ≡ false
not_both true not_so = absurd (not_so refl)
not_both false not_so = refl

-- a first fault is none at all -----------------------------------------------------------------------------------------

module _ {B : Type 0} where
  pub first_none : (o p : Option B) → option_or o p ≡ None → o ≡ None
  first_none None p is = refl
  first_none (Some y) p is = is

  pub other_none : (o p : Option B) → option_or o p ≡ None → p ≡ None
  other_none None p is = is
  other_none (Some y) p is = absurd (none-some y (sym is))

module _ {A B : Type 0} where
  given_none : (f : ℕ → A → Option B) (k : ℕ) (xs : List A) (i : ℕ) (d : A) → i < length xs → first_given f k xs ≡ None → f (k + i) (get_or xs i d) ≡ None
  given_none f k [] i d less none = absurd (omega (arith, less))
  given_none f k (x ∷ xs) zero d less none = let same : k + 0 ≡ k = omega arith in ap (λ n. f n x) same ∙ first_none (f k x) _ none
  given_none f k (x ∷ xs) (suc i) d less none =
      let same : k + suc i ≡ (k + 1) + i = omega arith in
      ap (λ n. f n (get_or xs i d)) same ∙ given_none f (k + 1) xs i d (omega (arith, less)) (other_none (f k x) _ none)

  given_at : (f : ℕ → A → Option B) (xs : List A) (i : ℕ) (d : A) → i < length xs → first_given f 0 xs ≡ None → f i (get_or xs i d) ≡ None
  given_at f xs i d less none = let same : 0 + i ≡ i = omega arith in ap (λ n. f n (get_or xs i d)) (sym same) ∙ given_none f 0 xs i d less none

no_fault : (b : Bool) (c : RuleCode) (d : Located) → fault_if b c d ≡ None → b ≡ false
no_fault true c d is = absurd (none-some _ (sym is))
no_fault false c d is = refl

-- an attribute clashes with none before it
pub no_clash : (allowed : Arguments) (classes : Classes) (ds : List Located) (i : ℕ) (d : Located) → i < length ds → d ≡ get_or ds i d
    → declared_twice allowed classes ds ≡ None → is_attribute d.decl.form ≡ true
    → list_any (clashes allowed classes d) (take i ds) ≡ false
no_clash allowed classes ds i d less at none declares =
    by (is_attribute d.decl.form) declares (list_any (clashes allowed classes d) (take i ds)) (binds_twice d.decl.form)
    (no_fault ((is_attribute d.decl.form && list_any (clashes allowed classes d) (take i ds)) || binds_twice d.decl.form)
    code.AttributeTwice d (ap (twice_at allowed classes ds i) at ∙ given_at (twice_at allowed classes ds) ds i d less none))
  where
    by : (a : Bool) → a ≡ true → (b c : Bool) → ((a && b) || c) ≡ false → b ≡ false
    by true is true c off = absurd (true≢false off)
    by true is false c off = refl
    by false is b c off = absurd (true≢false (sym is))

-- an equation is not there already
pub no_equation : (ds : List Located) (i : ℕ) (d : Located) → i < length ds → d ≡ get_or ds i d → equation_twice ds ≡ None → list_any (is_same_equation d) (take i ds) ≡ false
no_equation ds i d less at none = no_fault (list_any (is_same_equation d) (take i ds)) code.EquationTwice d (ap (equation_at ds i) at ∙ given_at (equation_at ds) ds i d less none)

-- keys that aren't there -----------------------------------------------------------------------------------------------

insert_new : {K V : Type 0} (eq : K → K → Bool) (es : List (K × V)) (k : K) (v : V) → list_any (λ e. eq k e.0) es ≡ false → insert_entry eq es k v ≡ es ++ (k, v) ∷ []
insert_new eq [] k v none = refl
insert_new eq (e ∷ es) k v none = by (eq k e.0) (insert_new eq es k v) none
  where
    by : (b : Bool) → (list_any (λ x. eq k x.0) es ≡ false → insert_entry eq es k v ≡ es ++ (k, v) ∷ [])
        → (b || list_any (λ x. eq k x.0) es) ≡ false
        → cond b ((e.0, v) ∷ es) (e ∷ insert_entry eq es k v) ≡ e ∷ es ++ (k, v) ∷ []
    by true rest is = absurd (true≢false is)
    by false rest is = ap (λ l. e ∷ l) (rest is)

-- what some declarations mean has no such part, since none of them clashes
module _ (allowed : Arguments) {A : Type 0} (classes : Classes) (all : List Located) (part : Meaning → Option A) (test : A → Bool) (clash : Located → Bool) where
  none_meant : ((d : Located) (m : Meaning) (a : A) → meant allowed classes all d ≡ Is m → part m ≡ Some a
      → test a ≡ true
      → clash d ≡ true) → (some : List Located) → list_any clash some ≡ false
      → list_any test (filter_map part (meanings allowed classes all some)) ≡ false
  none_meant too some none = not_both (list_any test (filter_map part (meanings allowed classes all some))) clashing
    where
      by : (d : Located) (m : Meaning) → meant allowed classes all d ≡ Is m → (o : Option A) → part m ≡ o
          → passes test o ≡ true → clash d ≡ true
      by d m is None at found = absurd (true≢false (sym found))
      by d m is (Some a) at found = too d m a is at found

      of : (d : Located) (j : Judgement Meaning) → meant allowed classes all d ≡ j
          → passes (λ m. passes test (part m)) (meaning_if j) ≡ true → clash d ≡ true
      of d (Is m) is found = by d m is (part m) refl found
      of d (Wrong c at) is found = absurd (true≢false (sym found))

      here : (d : Located) → passes (λ m. passes test (part m)) (meaning_if (meant allowed classes all d)) ≡ true
          → clash d ≡ true
      here d found = of d (meant allowed classes all d) refl found

      clashing : list_any test (filter_map part (meanings allowed classes all some)) ≡ true → ⊥
      clashing is =
          let given : list_any (λ d. passes (λ m. passes test (part m)) (meaning_if (meant allowed classes all d))) some
          ≡ true = sym (any_given (λ m. passes test (part m)) (λ d. meaning_if (meant allowed classes all d)) some)
          ∙ sym (any_given test part (meanings allowed classes all some)) ∙ is in
          true≢false (sym (any_too (λ d. passes (λ m. passes test (part m)) (meaning_if (meant allowed classes all d)))
          clash here some given) ∙ none)

-- a key is new where what stands there has no such part
module _ {K V A : Type 0} (eq : K → K → Bool) (view : K × V → A) where
  key_new : (es : List (K × V)) (k : K) (test : A → Bool) → ((e : K × V) → eq k e.0 ≡ true → test (view e) ≡ true) → list_any test (map view es) ≡ false → list_any (λ e. eq k e.0) es ≡ false
  key_new es k test same none = not_both (list_any (λ e. eq k e.0) es) found
    where
      found : list_any (λ e. eq k e.0) es ≡ true → ⊥
      found is = true≢false (sym (any_too (λ e. eq k e.0) (λ e. test (view e)) same es is) ∙ any_mapped test view es ∙ none)

  -- an entry more
  grown : (es : List (K × V)) (o : Option (K × V)) (as' : List A) (a : Option A) → map view es ≡ as'
      → option_map view o ≡ a → IfSome o (λ e. list_any (λ x. eq e.0 x.0) es ≡ false)
      → map view (with_entry eq es o) ≡ as' ++ cons_option a []
  grown es None as' a is at new = is ∙ sym (append-nil as') ∙ ap (λ o. as' ++ cons_option o []) at
  grown es (Some e) as' a is at new = ap (map view) (insert_new eq es e.0 e.1 new) ∙ map-append view es (e ∷ []) ∙ ap₂ (λ l o. l ++ cons_option o []) is at

-- names ----------------------------------------------------------------------------------------------------------------

module _ {Z : Type 0} where
  name_at : (names : List (String Z)) (text : List ℕ) (n : ℕ) → number_in names text ≡ Some n → (n < length names) × (text_of names n ≡ text)
  name_at [] text n is = absurd (none-some n is)
  name_at (s ∷ ss) text n is =
      let p = position-Some (λ k. bytes_eq text (string_bytes k)) (s ∷ ss) n s is in
      let found = slice_get-get_or (s ∷ ss) n s p.0 in
      (p.0, ap (λ (o : Option (String Z)). elim o [ None ↦ [] | Some t ↦ string_bytes t ]) found ∙ sym ((bytes_eq-Decides text (string_bytes (get_or (s ∷ ss) n s))).0 p.1))

-- what the declarations before it mean has no such key -------------------------------------------------------------------

pub equal : (v w : List ℕ) → v ≡ w → bytes_eq v w ≡ true
equal v w is = ap (bytes_eq v) (sym is) ∙ nat_list_eq_equiv.refl v

pub or_left : (a b : Bool) → a ≡ true → (a || b) ≡ true
or_left a b is = ap (λ x. x || b) is

same_option : (o p : Option ℕ) → option_eq nat_eq o p ≡ true → o ≡ p
same_option None None is = refl
same_option None (Some j) is = absurd (true≢false (sym is))
same_option (Some i) None is = absurd (true≢false (sym is))
same_option (Some i) (Some j) is = ap Some (eqb-true i j is)

-- what is said of a part that is there
pub said : {A : Type 0} (P : A → Type 0) (o : Option A) (a : A) → o ≡ Some a → IfSome o P → P a
said P o a is says = subst (λ x. IfSome x P) is says

-- two equations for one attribute of a class are the same one
pub same_own : (classes : Classes) (ds : List Located) (d e : Located) (a b : OwnEquation) → OfOwn classes ds d a
    → OfOwn classes ds e b → (nat_eq a.class b.class && nat_eq a.attribute b.attribute) ≡ true
    → is_same_equation d e ≡ true
same_own classes ds d e a b of other same =
    let class : a.class ≡ b.class = eqb-true a.class b.class (first_of (nat_eq a.class b.class) (nat_eq a.attribute b.attribute) same) in
    let attribute : a.attribute ≡ b.attribute = eqb-true a.attribute b.attribute (second_of (nat_eq a.class b.class) (nat_eq a.attribute b.attribute) same) in
    let classes_same = same_class_text classes (class_text d) (class_text e) b.class (of.1 ∙ ap Some class) other.1 in
    let names_same = same_name_text classes ds (class_text d) (class_text e) (name_text d) (name_text e) b.attribute (of.2 ∙ ap Some attribute) other.2 in
    let words : (bytes_eq (class_text d) (class_text e) && bytes_eq (name_text d) (name_text e)) ≡ true =
    and_true (bytes_eq (class_text d) (class_text e)) (bytes_eq (name_text d) (name_text e))
    (equal (class_text d) (class_text e) classes_same) (equal (name_text d) (name_text e) names_same) in
    let owns : (is_own_equation d.decl.form && is_own_equation e.decl.form) ≡ true = and_true (is_own_equation d.decl.form) (is_own_equation e.decl.form) of.0 other.0 in
    and_true (bytes_eq (class_text d) (class_text e) && bytes_eq (name_text d) (name_text e))
    ((is_own_equation d.decl.form && is_own_equation e.decl.form) || is_same_getter (getter_in d.decl.form)
    (getter_in e.decl.form)) words (or_left (is_own_equation d.decl.form && is_own_equation e.decl.form)
    (is_same_getter (getter_in d.decl.form) (getter_in e.decl.form)) owns)

-- so are two for one component and one attribute of a class
pub same_inherited : (classes : Classes) (d e : Located) (a b : InheritedEquation) → OfInherited classes d a
    → OfInherited classes e b → ((nat_eq a.class b.class && option_eq nat_eq a.part b.part) && bytes_eq a.name b.name)
    ≡ true → is_same_equation d e ≡ true
same_inherited classes d e a b of other same =
    let place : (nat_eq a.class b.class && option_eq nat_eq a.part b.part) ≡ true = first_of (nat_eq a.class b.class && option_eq nat_eq a.part b.part) (bytes_eq a.name b.name) same in
    let class : a.class ≡ b.class = eqb-true a.class b.class (first_of (nat_eq a.class b.class) (option_eq nat_eq a.part b.part) place) in
    let part : a.part ≡ b.part = same_option a.part b.part (second_of (nat_eq a.class b.class) (option_eq nat_eq a.part b.part) place) in
    let name : a.name ≡ b.name = (bytes_eq-Decides a.name b.name).0 (second_of (nat_eq a.class b.class && option_eq nat_eq a.part b.part) (bytes_eq a.name b.name) same) in
    let classes_same = same_class_text classes (class_text d) (class_text e) b.class (of.2 ∙ ap Some class) other.2 in
    let getters_same = same_getter classes b.class of.0 other.0 b.part (ap (λ c. component_got classes c of.0) (sym class) ∙ of.3 ∙ ap Is part) other.3 in
    let getters : is_same_getter (getter_in d.decl.form) (getter_in e.decl.form) ≡ true = ap₂ is_same_getter of.1 other.1 ∙ equal of.0.text other.0.text getters_same in
    let words : (bytes_eq (class_text d) (class_text e) && bytes_eq (name_text d) (name_text e)) ≡ true =
    and_true (bytes_eq (class_text d) (class_text e)) (bytes_eq (name_text d) (name_text e)) (equal (class_text d)
    (class_text e) classes_same) (equal (name_text d) (name_text e) (sym of.4 ∙ name ∙ other.4)) in
    and_true (bytes_eq (class_text d) (class_text e) && bytes_eq (name_text d) (name_text e))
    ((is_own_equation d.decl.form && is_own_equation e.decl.form) || is_same_getter (getter_in d.decl.form)
    (getter_in e.decl.form)) words (or_right (is_own_equation d.decl.form && is_own_equation e.decl.form)
    (is_same_getter (getter_in d.decl.form) (getter_in e.decl.form)) getters)

module _ (allowed : Arguments) (classes : Classes) (ds : List Located) (i : ℕ) (d : Located) (less : i < length ds) (at : d ≡ get_or ds i d) where
  attribute_clashes : declared_twice allowed classes ds ≡ None → (a : Attribute) → OfAttribute classes d a
      → list_any (λ (b : Attribute). nat_eq a.class b.class && bytes_eq a.name b.name)
      (filter_map (λ (m : Meaning). m.attribute) (meanings allowed classes ds (take i ds))) ≡ false
  attribute_clashes none a of = none_meant allowed classes ds (λ (m : Meaning). m.attribute) _ (clashes allowed classes d) too
      (take i ds) (no_clash allowed classes ds i d less at none of.0)
    where
      too : (e : Located) (m : Meaning) (b : Attribute) → meant allowed classes ds e ≡ Is m → m.attribute ≡ Some b
          → (nat_eq a.class b.class && bytes_eq a.name b.name) ≡ true → clashes allowed classes d e ≡ true
      too e m b is there same =
          let other = said (OfAttribute classes e) m.attribute b there (of_words allowed classes ds e m is).attribute in
          let class : a.class ≡ b.class = eqb-true a.class b.class (first_of (nat_eq a.class b.class) (bytes_eq a.name b.name) same) in
          let name : a.name ≡ b.name = (bytes_eq-Decides a.name b.name).0 (second_of (nat_eq a.class b.class) (bytes_eq a.name b.name) same) in
          let classes_same = same_class_text classes (class_text d) (class_text e) b.class (of.1 ∙ ap Some class) other.1 in
          let below : is_below classes (class_text d) (class_text e) ≡ true = or_left
          (bytes_eq (class_text d) (class_text e)) (is_sub_or_none classes (class_of_name classes (class_text d))
          (class_of_name classes (class_text e))) (equal (class_text d) (class_text e) classes_same) in
          let line : is_on_one_line classes (class_text d) (class_text e) ≡ true = or_left (is_below classes (class_text d) (class_text e)) (is_below classes (class_text e) (class_text d)) below in
          let names : (is_attribute e.decl.form && bytes_eq (name_text d) (name_text e)) ≡ true =
          and_true (is_attribute e.decl.form) (bytes_eq (name_text d) (name_text e)) other.0
          (equal (name_text d) (name_text e) (sym of.2 ∙ name ∙ other.2)) in
          and_true (is_attribute e.decl.form && bytes_eq (name_text d) (name_text e))
          (disagrees allowed d.decl.form e.decl.form || is_on_one_line classes (class_text d) (class_text e)) names
          (or_right (disagrees allowed d.decl.form e.decl.form) (is_on_one_line classes (class_text d) (class_text e)) line)

  own_clashes : equation_twice ds ≡ None → (a : OwnEquation) → OfOwn classes ds d a
      → list_any (λ (b : OwnEquation). nat_eq a.class b.class && nat_eq a.attribute b.attribute)
      (filter_map (λ (m : Meaning). m.own) (meanings allowed classes ds (take i ds))) ≡ false
  own_clashes none a of = none_meant allowed classes ds (λ (m : Meaning). m.own) _ (is_same_equation d)
      (λ e m b is there. same_own classes ds d e a b of (said (OfOwn classes ds e) m.own b there
      (of_words allowed classes ds e m is).own)) (take i ds) (no_equation ds i d less at none)

  inherited_clashes : equation_twice ds ≡ None → (a : InheritedEquation) → OfInherited classes d a → list_any
      (λ (b : InheritedEquation). (nat_eq a.class b.class && option_eq nat_eq a.part b.part) && bytes_eq a.name b.name)
      (filter_map (λ (m : Meaning). m.inherited) (meanings allowed classes ds (take i ds))) ≡ false
  inherited_clashes none a of = none_meant allowed classes ds (λ (m : Meaning). m.inherited) _ (is_same_equation d)
      (λ e m b is there. same_inherited classes d e a b of (said (OfInherited classes e) m.inherited b there
      (of_words allowed classes ds e m is).inherited)) (take i ds) (no_equation ds i d less at none)

-- one declaration more ---------------------------------------------------------------------------------------------------

-- what all mean, with one more
with_more : (allowed : Arguments) (classes : Classes) (ds : List Located) (i : ℕ) (d : Located) (m : Meaning)
    → i < length ds → d ≡ get_or ds
    i d → meant allowed classes ds d ≡ Is m → meanings allowed classes ds (take (i + 1) ds)
    ≡ meanings allowed classes ds (take i ds) ++ m ∷ []
with_more allowed classes ds i d m less at is =
    ap (meanings allowed classes ds) (take_more ds i d less ∙ ap (λ x. take i ds ++ x ∷ []) (sym at))
    ∙ filter_map-append (λ x. meaning_if (meant allowed classes ds x)) (take i ds) (d ∷ [])
    ∙ ap (λ j. meanings allowed classes ds (take i ds) ++ cons_option (meaning_if j) []) is

part_more : {A : Type 0} (part : Meaning → Option A) (ms ns : List Meaning) (m : Meaning) → ns ≡ ms ++ m ∷ [] → filter_map part ms ++ cons_option (part m) [] ≡ filter_map part ns
part_more part ms ns m is = sym (ap (filter_map part) is ∙ filter_map-append part ms (m ∷ []))

kept_append : {A : Type 0} (keep : A → Bool) (xs : List A) (x : A) → keep x ≡ true → filter keep (xs ++ x ∷ []) ≡ filter keep xs ++ x ∷ []
kept_append keep [] x is = ap (λ b. cond b (x ∷ []) []) is
kept_append keep (y ∷ ys) x is = by (keep y) (kept_append keep ys x is)
  where
    by : (b : Bool) → filter keep (ys ++ x ∷ []) ≡ filter keep ys ++ x ∷ [] → cond b (y ∷ filter keep (ys ++ x ∷ []))
        (filter keep (ys ++ x ∷ [])) ≡ cond b (y ∷ filter keep ys) (filter keep ys) ++ x ∷ []
    by true rest = ap (λ l. y ∷ l) rest
    by false rest = rest

any_kept : {A : Type 0} (p keep : A → Bool) → ((x : A) → p x ≡ true → keep x ≡ true) → (xs : List A) → list_any p (filter keep xs) ≡ false → list_any p xs ≡ false
any_kept p keep too [] none = refl
any_kept p keep too (x ∷ xs) none = by (keep x) refl (p x) refl (any_kept p keep too xs) none
  where
    by : (k : Bool) → keep x ≡ k → (b : Bool) → p x ≡ b → (list_any p (filter keep xs) ≡ false → list_any p xs ≡ false)
        → list_any p (cond k (x ∷ filter keep xs) (filter keep xs)) ≡ false → (b || list_any p xs) ≡ false
    by true kept true is rest off = absurd (true≢false (sym (ap (λ b. b || list_any p (filter keep xs)) is) ∙ off))
    by true kept false is rest off = rest (sym (ap (λ b. b || list_any p (filter keep xs)) is) ∙ off)
    by false kept true is rest off = absurd (true≢false (sym (too x is) ∙ kept))
    by false kept false is rest off = rest off

module _ (allowed : Arguments) (classes : Classes) (ds : List Located) (i : ℕ) (d : Located) (n : ℕ) (names : List (String Global))
    (less : i < length ds) (at : d ≡ get_or ds i d) (named_so : number_in names (name_text d) ≡ Some n) where
  same_text : text_of names n ≡ name_text d
  same_text = (name_at names (name_text d) n named_so).1

  attributes_more : declared_twice allowed classes ds ≡ None → (es : List ((ℕ × ℕ) × AttributeValue))
      → map (attribute_view names) es ≡ filter_map (λ (m : Meaning). m.attribute)
      (meanings allowed classes ds (take i ds))
      → (o : Option (ℕ × AttributeValue)) → IfSome (option_map (attribute_of d) o) (OfAttribute classes d)
      → map (attribute_view names) (with_entry same_key es (option_map (attribute_by n) o))
      ≡ filter_map (λ (m : Meaning). m.attribute) (meanings allowed classes ds (take i ds))
      ++ cons_option (option_map (attribute_of d) o) []
  attributes_more none es is None of = is ∙ sym (append-nil _)
  attributes_more none es is (Some a) of = grown same_key (attribute_view names) es (Some ((a.0, n), a.1))
      _ (Some (attribute_of d a)) is (ap (λ t. Some (record (attribute_of d a) { name = t })) same_text)
      (key_new same_key (attribute_view names) es (a.0, n) (λ b. nat_eq a.0 b.class && bytes_eq (name_text d) b.name)
      same (ap (list_any (λ b. nat_eq a.0 b.class && bytes_eq (name_text d) b.name)) is
      ∙ attribute_clashes allowed classes ds i d less at none (attribute_of d a) of))
    where
      same : (e : (ℕ × ℕ) × AttributeValue) → (nat_eq a.0 e.0.0 && nat_eq n e.0.1) ≡ true → (nat_eq a.0 e.0.0 && bytes_eq (name_text d) (text_of names e.0.1)) ≡ true
      same e is = and_true (nat_eq a.0 e.0.0) (bytes_eq (name_text d) (text_of names e.0.1))
          (first_of (nat_eq a.0 e.0.0) (nat_eq n e.0.1) is) (equal (name_text d) (text_of names e.0.1)
          (sym same_text ∙ ap (text_of names) (eqb-true n e.0.1 (second_of (nat_eq a.0 e.0.0) (nat_eq n e.0.1) is))))

  own_more : equation_twice ds ≡ None → (es : List ((ℕ × ℕ) × BodyValue))
      → map own_view es ≡ filter_map (λ (m : Meaning). m.own) (meanings allowed classes ds (take i ds))
      → (o : Option ((ℕ × ℕ) × BodyValue)) → IfSome (option_map own_view o) (OfOwn classes ds d)
      → map own_view (with_entry same_key es o) ≡ filter_map (λ (m : Meaning). m.own)
      (meanings allowed classes ds (take i ds)) ++ cons_option (option_map own_view o) []
  own_more none es is None of = is ∙ sym (append-nil _)
  own_more none es is (Some e) of = grown same_key own_view es (Some e) _ (Some (own_view e)) is refl
      (key_new same_key own_view es e.0 (λ b. nat_eq e.0.0 b.class && nat_eq e.0.1 b.attribute) (λ x here. here)
      (ap (list_any (λ b. nat_eq e.0.0 b.class && nat_eq e.0.1 b.attribute)) is
      ∙ own_clashes allowed classes ds i d less at none (own_view e) of))

  abbrev inherited_key : (ℕ × Option ℕ) × BodyValue → ℕ × Option ℕ × ℕ
  inherited_key e = (e.0.0, e.0.1, n)

  abbrev is_inherited_there : (ℕ × Option ℕ) × BodyValue → InheritedEquation → Bool
  is_inherited_there e b = (nat_eq e.0.0 b.class && option_eq nat_eq e.0.1 b.part) && bytes_eq (name_text d) b.name

  within : nat_lt n (length names) ≡ true
  within = lt-ltb n (length names) (name_at names (name_text d) n named_so).0

  inherited_new : equation_twice ds ≡ None → (es : List ((ℕ × Option ℕ × ℕ) × BodyValue))
      → map (inherited_view names) (named names es)
      ≡ filter_map (λ (m : Meaning). m.inherited) (meanings allowed classes ds (take i ds))
      → (e : (ℕ × Option ℕ) × BodyValue)
      → OfInherited classes d (inherited_of d e) → list_any (λ x. same_place (inherited_key e) x.0) es ≡ false
  inherited_new none es is e of = any_kept (λ (x : (ℕ × Option ℕ × ℕ) × BodyValue). same_place (inherited_key e) x.0) (λ (x : (ℕ × Option ℕ × ℕ) × BodyValue). nat_lt x.0.2 (length names)) kept es
      (key_new same_place (inherited_view names) (named names es) (inherited_key e) (is_inherited_there e) same
      (ap (list_any (is_inherited_there e)) is
      ∙ inherited_clashes allowed classes ds i d less at none (inherited_of d e) of))
    where
      numbers : (x : (ℕ × Option ℕ × ℕ) × BodyValue) → same_place (inherited_key e) x.0 ≡ true → n ≡ x.0.2
      numbers x is = eqb-true n x.0.2 (second_of (nat_eq e.0.0 x.0.0 && option_eq nat_eq e.0.1 x.0.1) (nat_eq n x.0.2) is)

      same : (x : (ℕ × Option ℕ × ℕ) × BodyValue) → same_place (inherited_key e) x.0 ≡ true → is_inherited_there e (inherited_view names x) ≡ true
      same x is = and_true (nat_eq e.0.0 x.0.0 && option_eq nat_eq e.0.1 x.0.1) (bytes_eq (name_text d)
          (text_of names x.0.2)) (first_of (nat_eq e.0.0 x.0.0 && option_eq nat_eq e.0.1 x.0.1) (nat_eq n x.0.2) is)
          (equal (name_text d) (text_of names x.0.2) (sym same_text ∙ ap (text_of names) (numbers x is)))

      kept : (x : (ℕ × Option ℕ × ℕ) × BodyValue) → same_place (inherited_key e) x.0 ≡ true → nat_lt x.0.2 (length names) ≡ true
      kept x is = ap (λ k. nat_lt k (length names)) (sym (numbers x is)) ∙ within

  inherited_more : equation_twice ds ≡ None → (es : List ((ℕ × Option ℕ × ℕ) × BodyValue)) → map (inherited_view names)
      (named names es) ≡ filter_map (λ (m : Meaning). m.inherited) (meanings allowed classes ds (take i ds))
      → (o : Option ((ℕ × Option ℕ) × BodyValue)) → IfSome (option_map (inherited_of d) o) (OfInherited classes d)
      → map (inherited_view names) (named names (with_entry same_place es (option_map (inherited_by n) o)))
      ≡ filter_map (λ (m : Meaning). m.inherited) (meanings allowed classes ds (take i ds))
      ++ cons_option (option_map (inherited_of d) o) []
  inherited_more none es is None of = is ∙ sym (append-nil _)
  inherited_more none es is (Some e) of =
      ap (λ l. map (inherited_view names) (named names l)) (insert_new same_place es (inherited_key e) e.1 (inherited_new none es is e of))
      ∙ ap (map (inherited_view names)) (kept_append (λ (x : (ℕ × Option ℕ × ℕ) × BodyValue). nat_lt x.0.2 (length names)) es (inherited_key e, e.1) within)
      ∙ map-append (inherited_view names) (named names es) ((inherited_key e, e.1) ∷ [])
      ∙ ap₂ (λ l t. l ++ (record (inherited_of d e) { name = t }) ∷ []) is same_text

  -- what a declaration means is added to what those before it mean
  pub stands_more : (old new : Equations) (m : Added) → declared_twice allowed classes ds ≡ None → equation_twice ds ≡ None
      → meant allowed classes ds d ≡ Is (meaning_of d m) → Inserts n m old new
      → Stands names (meanings allowed classes ds (take i ds)) old
      → Stands names (meanings allowed classes ds (take (i + 1) ds)) new
  stands_more old new m attributes_apart equations_apart is added so_far =
      let of = of_words allowed classes ds d (meaning_of d m) is in
      let more = with_more allowed classes ds i d (meaning_of d m) less at is in
      record {
        attributes = ap (map (attribute_view names)) added.attributes
            ∙ attributes_more attributes_apart old.attributes.entries so_far.attributes m.attribute of.attribute
            ∙ part_more (λ (m : Meaning). m.attribute) _ _ (meaning_of d m) more;
        own = ap (map own_view) added.own ∙ own_more equations_apart old.own.entries so_far.own m.own of.own ∙ part_more (λ (m : Meaning). m.own) _ _ (meaning_of d m) more;
        inherited = ap (λ es. map (inherited_view names) (named names es)) added.inherited
            ∙ inherited_more equations_apart old.inherited.entries so_far.inherited m.inherited of.inherited
            ∙ part_more (λ (m : Meaning). m.inherited) _ _ (meaning_of d m) more;
      }

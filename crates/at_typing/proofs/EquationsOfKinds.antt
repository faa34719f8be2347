-- The equations of rules that have no fault are typed.
use Rattle.std.proofs.Common.{◌≡◌, ℕ, ◌<◌, Bool, true, false, ◌&&◌, ◌||◌, not, List, [], ◌∷◌, length, Option, Some, None, refl, sym, ap, ◌∙◌, subst, true≢false}
use Rattle.std.specs.Prelude.{codes, cond, filter, is_some, option_and_then, IfSome, IsSome, if◌then◌else◌}
use Rattle.std.specs.List.{slice_get, AllZip, AllByRecursion, filter_map, cons_option}
use Rattle.std.specs.Str.{bytes_eq}
use Rattle.std.proofs.lemmas.Slice.Eq.{bytes_eq-Decides}
use Rattle.at_model.specs.Bodies.{Expr, NullLiteral}
use Rattle.at_model.specs.Classes.{Classes, Shape, class_of_name, is_sub, parts}
use Rattle.at_model.specs.Classes as class
use Rattle.at_model.specs.Rules.{Rules, Attribute}
use Rattle.at_model.specs.Kinds.{HasKind, IsOwnTyped, IsInheritedTyped, AreInheritedAlike, AreTyped, is_for_list, class_of_part}
use Rattle.at_model.specs.WellFormed.{IsHierarchy, AreWellFormed}
use Rattle.at_model.specs.Rules.{AreComplete}
use Rattle.at_model.proofs.Everywhere.{all_more}
use Rattle.at_model.proofs.Options.{both}
use Rattle.at_jrag.specs.Syntax.{Word, KindWord, Body, DeclForm}
use Rattle.at_jrag.specs.Syntax as written
use Rattle.at_rules.specs.Circular.{AreCircularLazy, HasNoneCircular}
use Rattle.at_kinds.specs.declared.arguments.Arguments.{Arguments}
use Rattle.at_kinds.specs.Accessors.{accessed, shape_of}
use Rattle.at_typing.specs.Building.{meaning_if, meanings, first_fault, rules_of}
use Rattle.at_typing.specs.Declaring.{attributes, is_attribute, is_inherited, IsNotCircular, body_in, index_in, class_text, name_text, is_below, is_sub_or_none, is_synthesized_by, synthesized_named, inherited_named, declared_twice, over_limit, accessor_named, fault_together}
use Rattle.at_kinds.specs.Judging.{Judgement, Is, Wrong, and_then}
use Rattle.at_typing.specs.Located.{Located, class_word}
use Rattle.at_typing.specs.Meanings.{Meaning, attribute_meant, signatures, own_equation, own_meant, inherited_equation, inherited_meant, body_meant, declared_alone, declared_with, own_alone, inherited_alone, with_body, below_class, below_component, form_meant, meant}
use Rattle.at_typing.specs.Ruling.{class_named, component_got, component_at, is_component, is_many, index_of_list}
use Rattle.at_kinds.specs.declared.code.RuleCode.TheVariants as code
use Rattle.at_complete.proofs.Climbing.{sub_itself}
use Rattle.at_typing.proofs.Gathering.{first_none, other_none}
use Rattle.at_kinds.proofs.Holding.{Holds, then_holds, none_holds}
use Rattle.at_typing.proofs.of_attributes.InheritedAlike.{inherited_alike}
use Rattle.at_kinds.proofs.KindsKnown.{beside_it, element_found}
use Rattle.at_typing.proofs.of_attributes.KindsDeclared.{IsOfWord, Declares, class_there, class_named_right, attribute_right, all_declared, signatures_same, all_typed, none_starts, circular_lazy}
use Rattle.at_typing.proofs.KindsOfBodies.{IsBodyOf, body_right}
use Rattle.at_typing.proofs.Literals.{AreInts, AreIntsIn}
use Rattle.at_typing.proofs.Starting.{IsBooleanIn}

-- components ------------------------------------------------------------------------------------------------------------

-- trees stand in the component, if it is one
abbrev HasTrees : Classes → ℕ → Option ℕ → Type 0
HasTrees classes c part = IfSome part (λ p. IsSome (class_of_part classes c p))

component_right : (classes : Classes) (c : ℕ) (getter : Word) → Holds (HasTrees classes c) (component_got classes c getter)
component_right classes c getter = by (bytes_eq getter.text (codes "getChild"))
  where
    trees : (o : Option Shape) → is_component o ≡ true → IsSome (option_and_then class.class_in o)
    trees None is = absurd (true≢false (sym is))
    trees (Some (class.Token k)) is = absurd (true≢false (sym is))
    trees (Some (class.One b)) is = refl
    trees (Some (class.Many b)) is = refl
    trees (Some (class.Maybe b)) is = refl

    found : (part : ℕ) (b : Bool) → is_component (shape_of (parts classes c) part) ≡ b → Holds (HasTrees classes c) (if b then Is (Some part) else Wrong code.UnknownName getter.at)
    found part true is = trees (shape_of (parts classes c) part) is
    found part false is = tt

    at : (o : Option ℕ) → Holds (HasTrees classes c) (component_at classes c getter.at o)
    at None = tt
    at (Some part) = found part (is_component (shape_of (parts classes c) part)) refl

    by : (b : Bool) → Holds (HasTrees classes c) (if b then Is None else component_at classes c getter.at (accessed classes c getter.text))
    by true = tt
    by false = at (accessed classes c getter.text)

-- what is below by its words is below by its class
below_by_words : (classes : Classes) (v w : List ℕ) (c b : ℕ) → class_of_name classes v ≡ Some c → class_of_name classes w ≡ Some b → is_below classes v w ≡ true → is_sub classes c b ≡ true
below_by_words classes v w c b of to below = by (bytes_eq v w) refl below
  where
    by : (t : Bool) → bytes_eq v w ≡ t → (t || is_sub_or_none classes (class_of_name classes v) (class_of_name classes w)) ≡ true → is_sub classes c b ≡ true
    by true is h =
        let e : Some c ≡ Some b = sym of ∙ ap (class_of_name classes) ((bytes_eq-Decides v w).0 is) ∙ to in
        let f : c ≡ b = cc in
        subst (λ n. is_sub classes c n ≡ true) f (sub_itself classes c (class_there classes v c of))
    by false is h = sym (ap (λ o. is_sub_or_none classes o (class_of_name classes w)) of ∙ ap (λ o. is_sub_or_none classes (Some c) o) to) ∙ h

module _ (allowed : Arguments) (rules : Rules) (ds : List Located) (zip : AllZip (Declares rules.classes) (attributes ds) rules.attributes) where
  same_attribute : (n : ℕ) (a b : Attribute) → slice_get rules.attributes n ≡ Some a → slice_get rules.attributes n ≡ Some b → a ≡ b
  same_attribute n a b is at = let e : Some a ≡ Some b = sym is ∙ at in let f : a ≡ b = cc in f

  -- the declaration of the attribute of that number
  declaration_of : (n : ℕ) (a : Attribute) (x : Located) → slice_get rules.attributes n ≡ Some a → slice_get (attributes ds) n ≡ Some x → (result : KindWord) × IsOfWord rules.classes x result a
  declaration_of n a x is at =
      let (y, there, (result, has, of)) = beside_it (Declares rules.classes) (attributes ds) rules.attributes n x zip at in
      (result, subst (IsOfWord rules.classes x result) (same_attribute n y a there is) of)

  -- own equations -------------------------------------------------------------------------------------------------------

  own_right : (d : Located) (body : Body) (c : ℕ) → AreInts body.expr → class_of_name rules.classes (class_text d)
      ≡ Some c → index_in d.decl.form ≡ None → Holds (IsOwnTyped rules) (own_meant allowed rules.classes ds d body c)
  own_right d body c ints class no_index =
      then_holds (λ e. IsBodyOf allowed rules (signatures rules.classes ds)
      (signatures_same rules.classes ds rules.attributes
      zip) c false e × (synthesized_named rules.classes ds (class_text d) (name_text d) ≡ Some e.0))
      (IsOwnTyped rules) (λ e. Is (own_equation c e))
      (body_meant allowed rules.classes (signatures rules.classes ds) c d body
      (synthesized_named rules.classes ds (class_text d) (name_text d)))
      (body_right allowed rules (signatures rules.classes ds)
      (signatures_same rules.classes ds rules.attributes zip) c d body
      (synthesized_named rules.classes ds (class_text d) (name_text d)) false ints
      (λ is. absurd (true≢false (sym is ∙ ap is_some no_index))))
      (λ e (of, numbered).
      let (x, at, passes, less) = element_found (is_synthesized_by rules.classes (class_text d) (name_text d)) (attributes ds) e.0 numbered in
      let (result, declared) = declaration_of e.0 of.declaration x of.attribute at in
      let (own, named) = both (not (is_inherited x.decl.form)) (bytes_eq (name_text d) (name_text x) && is_below rules.classes (class_text d) (class_text x)) passes in
      let (name, below) = both (bytes_eq (name_text d) (name_text x)) (is_below rules.classes (class_text d) (class_text x)) named in
      record {
        declaration = of.declaration;
        attribute = of.attribute;
        synthesized = sym declared.inherits ∙ not_true (is_inherited x.decl.form) own;
        declared = below_by_words rules.classes (class_text d) (class_text x) c of.declaration.class class (declared.declared []).class below;
        body = of.body;
      })
    where
      not_true : (b : Bool) → not b ≡ true → b ≡ false
      not_true true is = absurd (true≢false (sym is))
      not_true false is = refl

  -- inherited equations -------------------------------------------------------------------------------------------------

  -- the equation stands for one list
  abbrev for_list : Located → ℕ → Option ℕ → Bool
  for_list d c part = is_for_list rules (inherited_equation d c part NullLiteral)

  index_right : (d : Located) (c : ℕ) (part : Option ℕ) (index : Option Word) → Holds {A = Unit {0}} (λ u. is_some index ≡ true → for_list d c part ≡ true) (index_of_list rules.classes c part index)
  index_right d c part None = λ is. absurd (true≢false (sym is))
  index_right d c part (Some word) = by (is_many (option_and_then (shape_of (parts rules.classes c)) part)) refl
    where
      many : (o : Option Shape) → is_many o ≡ true → (elim o [ Some (class.Many b) ↦ true | shape ↦ false ]) ≡ true
      many None is = absurd (true≢false (sym is))
      many (Some (class.Many b)) is = refl
      many (Some s) is = absurd (true≢false (sym is))

      by : (b : Bool) → is_many (option_and_then (shape_of (parts rules.classes c)) part) ≡ b
          → Holds {A = Unit {0}} (λ u. is_some (Some word) ≡ true → for_list d c part ≡ true)
          (if b then Is tt else Wrong code.UnknownName word.at)
      by true is = λ some. many (option_and_then (shape_of (parts rules.classes c)) part) is
      by false is = tt

  module _ (alike : AreInheritedAlike rules) where
    inherited_right : (d : Located) (index : Option Word) (body : Body) (c : ℕ) (part : Option ℕ) → AreInts body.expr
        → c < length rules.classes → HasTrees rules.classes c part → index_in d.decl.form ≡ index
        → Holds (IsInheritedTyped rules) (inherited_meant allowed rules.classes ds d index body c part)
    inherited_right d index body c part ints less trees has_index =
        then_holds (λ (u : Unit {0}). is_some index ≡ true → for_list d c part ≡ true) (IsInheritedTyped rules)
        (λ u. and_then (λ e. Is (inherited_equation d c part e.1))
        (body_meant allowed rules.classes (signatures rules.classes ds) c d body (inherited_named ds (name_text d))))
        (index_of_list rules.classes c part index) (index_right d c part index) (λ u indexed.
        then_holds (λ e. IsBodyOf allowed rules (signatures rules.classes ds)
        (signatures_same rules.classes ds rules.attributes
        zip) c (for_list d c part) e × (inherited_named ds (name_text d) ≡ Some e.0)) (IsInheritedTyped rules)
        (λ e. Is (inherited_equation d c part e.1))
        (body_meant allowed rules.classes (signatures rules.classes ds) c d body (inherited_named ds (name_text d)))
        (body_right allowed rules (signatures rules.classes ds)
        (signatures_same rules.classes ds rules.attributes zip) c d body
        (inherited_named ds (name_text d)) (for_list d c part) ints
        (λ is. indexed (sym (ap is_some has_index) ∙ is)))
        (λ e (of, numbered).
        let (x, at, passes, inside) = element_found (λ (y : Located). is_inherited y.decl.form && bytes_eq (name_text d) (name_text y)) (attributes ds) e.0 numbered in
        let (result, declared) = declaration_of e.0 of.declaration x of.attribute at in
        let (inherits, name) = both (is_inherited x.decl.form) (bytes_eq (name_text d) (name_text x)) passes in
        let there = sym declared.inherits ∙ inherits in
        let named = ap (bytes_eq (name_text d)) (sym declared.same_name) ∙ name in
        record {
          class = less;
          part = trees;
          declared = (e.0, of.declaration, (of.attribute, there, named));
          body = λ k a is. of_each e.1 of.declaration a (alike e.0 k of.declaration a of.attribute is.0 there is.1 (same_names (name_text d) of.declaration.name a.name named is.2)) of.body;
        }))
      where
        same_names : (n v w : List ℕ) → bytes_eq n v ≡ true → bytes_eq n w ≡ true → bytes_eq v w ≡ true
        same_names n v w is at = ap (λ l. bytes_eq l w) (sym ((bytes_eq-Decides n v).0 is)) ∙ at

        of_each : (e : Expr) (a b : Attribute) → (a.parameters ≡ b.parameters) × (a.result ≡ b.result)
            → HasKind rules (record { this = c; names = a.parameters; has_index = for_list d c part }) e a.result
            → HasKind rules (record { this = c; names = b.parameters; has_index = for_list d c part }) e b.result
        of_each e a b same h =
            subst (λ k. HasKind rules (record { this = c; names = b.parameters; has_index = for_list d c part }) e k) same.1
            (subst (λ ks. HasKind rules (record { this = c; names = ks; has_index = for_list d c part }) e a.result) same.0 h)

    -- declarations ------------------------------------------------------------------------------------------------------

    -- the equations that a declaration adds are typed
    abbrev AddsTyped : Meaning → Type 0
    AddsTyped m = IfSome m.own (IsOwnTyped rules) × IfSome m.inherited (IsInheritedTyped rules)

    ints_of : (d : Located) (body : Body) → body_in d.decl.form ≡ Some body → AreIntsIn d → AreInts body.expr
    ints_of d body is ints = subst (λ o. IfSome o (λ b. AreInts b.expr)) is ints

    with_body_right : (d : Located) (result : KindWord) (a : Attribute) (o : Option Body)
        → IsOfWord rules.classes d result a → index_in d.decl.form ≡ None → IfSome o (λ b. AreInts b.expr)
        → Holds AddsTyped (with_body allowed rules.classes ds d o a)
    with_body_right d result a None of no_index ints = (tt, tt)
    with_body_right d result a (Some body) of no_index ints =
        then_holds (IsOwnTyped rules) AddsTyped (declared_with a) (own_meant allowed rules.classes ds d body a.class)
        (own_right d body a.class ints (of.declared []).class no_index) (λ e typed. (typed, tt))

    form_right : (d : Located) (form : DeclForm) → d.decl.form ≡ form → AreIntsIn d
        → Holds AddsTyped (form_meant allowed rules.classes ds d form)
    form_right d (written.Synthesized lazy result class name params start ending) at ints =
        then_holds (IsOfWord rules.classes d result) AddsTyped
        (with_body allowed rules.classes ds d (body_in d.decl.form))
        (attribute_meant allowed rules.classes d result) (attribute_right allowed rules.classes d result)
        (λ a of. with_body_right d result a (body_in d.decl.form) of (ap index_in at) ints)
    form_right d (written.Inherited lazy result class name params start) at ints =
        none_holds AddsTyped declared_alone (attribute_meant allowed rules.classes d result) (λ a. (tt, tt))
    form_right d (written.Equation class name params body) at ints =
        then_holds (λ c. class_of_name rules.classes class.text ≡ Some c) AddsTyped
        (λ c. and_then own_alone (own_meant allowed rules.classes ds d body c)) (class_named rules.classes class)
        (class_named_right rules.classes class) (λ c is.
        then_holds (IsOwnTyped rules) AddsTyped own_alone (own_meant allowed rules.classes ds d body c)
        (own_right d body c
        (ints_of d body (ap body_in at) ints) (ap (λ f. class_of_name rules.classes (class_word f).text) at ∙ is)
        (ap index_in at)) (λ e typed. (typed, tt)))
    form_right d (written.InheritedEquation class getter index name params body) at ints =
        then_holds (λ c. class_of_name rules.classes class.text ≡ Some c) AddsTyped
        (below_class allowed rules.classes ds d
        getter index body) (class_named rules.classes class) (class_named_right rules.classes class) (λ c is.
        then_holds (HasTrees rules.classes c) AddsTyped (below_component allowed rules.classes ds d index body c)
        (component_got rules.classes c getter) (component_right rules.classes c getter) (λ part trees.
        then_holds (IsInheritedTyped rules) AddsTyped inherited_alone
        (inherited_meant allowed rules.classes ds d index body c
        part) (inherited_right d index body c part (ints_of d body (ap body_in at) ints)
        (class_there rules.classes class.text c is) trees (ap index_in at)) (λ e typed. (tt, typed))))

    pub meant_right : (d : Located) → AreIntsIn d → Holds AddsTyped (meant allowed rules.classes ds d)
    meant_right d ints = form_right d d.decl.form refl ints

-- what holds of what each declaration means holds of what they mean
module _ (allowed : Arguments) {A : Type 0} (P : A → Type 0) (part : Meaning → Option A) (classes : Classes) (all : List Located) where
  with_one : (o : Option A) → IfSome o P → (xs : List A) → AllByRecursion P xs → AllByRecursion P (cons_option o xs)
  with_one None h xs rest = rest
  with_one (Some a) h xs rest = (h, rest)

  with_meaning : (j : Judgement Meaning) (some : List Located) → Holds (λ m. IfSome (part m) P) j
      → AllByRecursion P (filter_map part (meanings allowed classes all some))
      → AllByRecursion P (filter_map part (cons_option (meaning_if j) (meanings allowed classes all some)))
  with_meaning (Is m) some h rest = with_one (part m) h _ rest
  with_meaning (Wrong c at) some h rest = rest

  each_part : (some : List Located) → AllByRecursion (λ d. Holds (λ m. IfSome (part m) P) (meant allowed classes all d))
      some → AllByRecursion P (filter_map part (meanings allowed classes all some))
  each_part [] each = tt
  each_part (d ∷ ds) each = with_meaning (meant allowed classes all d) ds each.0 (each_part ds each.1)

-- what holds of all holds of those that pass a test
all_filter : {A : Type 0} (P : A → Type 0) (p : A → Bool) (xs : List A) → AllByRecursion P xs
    → AllByRecursion P (filter p xs)
all_filter P p [] h = tt
all_filter P p (x ∷ xs) (h, hs) = by (p x) (all_filter P p xs hs)
  where
    by : (b : Bool) → AllByRecursion P (filter p xs) → AllByRecursion P (cond b (x ∷ filter p xs) (filter p xs))
    by true rest = (h, rest)
    by false rest = rest

one_part : {A : Type 0} (P Q : A → Type 0) (j : Judgement A) → ((a : A) → P a → Q a) → Holds P j → Holds Q j
one_part P Q (Is a) more h = more a h
one_part P Q (Wrong c at) more h = tt

-- rules -----------------------------------------------------------------------------------------------------------------

-- where no declaration has a start, no attribute is circular
pub none_circular : (allowed : Arguments) (classes : Classes) (ds : List Located)
    → first_fault allowed classes ds ≡ None
    → AllByRecursion IsNotCircular ds
    → HasNoneCircular (rules_of allowed classes ds)
none_circular allowed classes ds none plain =
    none_starts classes (attributes ds) (rules_of allowed classes ds).attributes
    (all_filter IsNotCircular (λ d. is_attribute d.decl.form) ds plain)
    (all_declared allowed classes ds 0 ds (other_none (fault_together allowed classes ds) _ none))

-- and those that are circular are lazy
pub circular_kept : (allowed : Arguments) (classes : Classes) (ds : List Located)
    → first_fault allowed classes ds ≡ None
    → AreCircularLazy (rules_of allowed classes ds)
circular_kept allowed classes ds none =
    circular_lazy classes (attributes ds) (rules_of allowed classes ds).attributes
    (all_declared allowed classes ds 0 ds (other_none (fault_together allowed classes ds) _ none))

-- the rules of declarations without a fault are typed
pub typed : (allowed : Arguments) (classes : Classes) (ds : List Located) → first_fault allowed classes ds ≡ None
    → AllByRecursion AreIntsIn ds
    → AllByRecursion IsBooleanIn ds
    → AreTyped (rules_of allowed classes ds)
typed allowed classes ds none ints booleans =
    let zip = all_declared allowed classes ds 0 ds (other_none (fault_together allowed classes ds) _ none) in
    let together = first_none (fault_together allowed classes ds) _ none in
    let twice = first_none (declared_twice allowed classes ds) _ (other_none (accessor_named classes ds) _ (other_none (over_limit ds) _ together)) in
    let alike = inherited_alike allowed (rules_of allowed classes ds) ds twice zip in
    let rules = rules_of allowed classes ds in
    record {
      attributes = all_typed classes (attributes ds) rules.attributes
          (all_filter IsBooleanIn (λ d. is_attribute d.decl.form) ds booleans) zip;
      alike = alike;
      own = each_part allowed (IsOwnTyped rules) (λ (m : Meaning). m.own) classes ds ds
          (all_more AreIntsIn (λ d. Holds (λ (m : Meaning). IfSome m.own (IsOwnTyped rules))
          (meant allowed classes ds d)) ds
          (λ d is. one_part _ (λ (m : Meaning). IfSome m.own (IsOwnTyped rules)) (meant allowed classes ds d)
          (λ m h. h.0)
          (meant_right allowed rules ds zip alike d is)) ints);
      inherited = each_part allowed (IsInheritedTyped rules) (λ (m : Meaning). m.inherited) classes ds ds
          (all_more AreIntsIn
          (λ d. Holds (λ (m : Meaning). IfSome m.inherited (IsInheritedTyped rules)) (meant allowed classes ds d)) ds
          (λ d is. one_part _ (λ (m : Meaning). IfSome m.inherited (IsInheritedTyped rules))
          (meant allowed classes ds d)
          (λ m h. h.1) (meant_right allowed rules ds zip alike d is)) ints);
    }

-- and well formed, where they are complete, and their classes a hierarchy
pub well_formed : (allowed : Arguments) (classes : Classes) (ds : List Located) (rules : Rules) → IsHierarchy classes
    → first_fault allowed classes ds ≡ None → rules ≡ rules_of allowed classes ds → AllByRecursion AreIntsIn ds
    → AllByRecursion IsBooleanIn ds → AreComplete rules → AreWellFormed rules
well_formed allowed classes ds rules hierarchy none is ints booleans complete =
    record {
      hierarchy = subst (λ (r : Rules). IsHierarchy r.classes) (sym is) hierarchy;
      typed = subst AreTyped (sym is) (typed allowed classes ds none ints booleans);
      complete = complete;
    }

-- J9 and J6: their tests find nothing exactly where each equation is of an attribute that is declared, and is there once.
use Rattle.std.proofs.Common.{◌≡◌, ℕ, ◌↔◌, inl, inr, Bool, true, false, ◌&&◌, ◌||◌, not, List, take, Option, Some, None, refl, sym, ap, ◌∙◌}
use Rattle.std.specs.List.{slice_get, list_any}
use Rattle.std.specs.Str.{bytes_eq}
use Rattle.at_model.specs.Classes.{Classes}
use Rattle.at_model.proofs.FirstGiven.{none_at, none_anywhere, off_on, any_before, before_any, any_there, there_any}
use Rattle.at_model.proofs.GrammarKept.{off_not, not_off, same_text, text_same}
use Rattle.at_model.proofs.Options.{both, and_true, not_true, either_true, or_right}
use Rattle.at_jrag.specs.Syntax.{Word, DeclForm, Synthesized, Inherited, Equation, InheritedEquation}
use Rattle.at_kinds.specs.declared.code.RuleCode.TheVariants as code
use Rattle.at_typing.specs.AspectRules.{AreEquationsOnce, AreForSame, AreOfAttributes, IsInheritedName, IsSynthesized}
use Rattle.at_typing.specs.AspectRules as rule
use Rattle.at_typing.specs.Declaring.{class_text, equation_at, equation_twice, getter_in, is_attribute, is_below, is_inherited, is_inherited_name, is_of_attribute, is_own_equation, is_same_equation, is_same_getter, is_synthesized, name_text, undeclared_at, without_attribute}
use Rattle.at_typing.specs.Located.{Located}
use Rattle.at_typing.proofs.of_aspects.FaultNowhere.{unfaulted, faultless}

on_not : (b : Bool) → not b ≡ true → b ≡ false
on_not true e = absurd cc
on_not false e = refl

not_on : (b : Bool) → b ≡ false → not b ≡ true
not_on true e = absurd cc
not_on false e = refl

module _ (classes : Classes) (ds : List Located) where
  abbrev is_declared : (class name : List ℕ) → Located → Bool
  is_declared class name d = (is_attribute d.decl.form && not (is_inherited d.decl.form)) && (bytes_eq name (name_text d) && is_below classes class (class_text d))

  synthesized_there : (class name : List ℕ) → is_synthesized classes ds class name ≡ true → IsSynthesized classes ds class name
  synthesized_there class name is =
      let (k, d, at, passes) = there_any (is_declared class name) ds is in
      let (one, two) = both (is_attribute d.decl.form && not (is_inherited d.decl.form)) (bytes_eq name (name_text d) && is_below classes class (class_text d)) passes in
      let (declares, own) = both (is_attribute d.decl.form) (not (is_inherited d.decl.form)) one in
      let (named, below) = both (bytes_eq name (name_text d)) (is_below classes class (class_text d)) two in
      record { position = k; declaration = d; there = at; declares = declares; synthesized = on_not (is_inherited d.decl.form) own; named = same_text name (name_text d) named; below = below }

  pub there_synthesized : (class name : List ℕ) → IsSynthesized classes ds class name → is_synthesized classes ds class name ≡ true
  there_synthesized class name h =
      let d = h.declaration in
      any_there (is_declared class name) ds h.position d h.there
      (and_true (is_attribute d.decl.form && not (is_inherited d.decl.form)) (bytes_eq name (name_text d) && is_below classes class (class_text d))
      (and_true (is_attribute d.decl.form) (not (is_inherited d.decl.form)) h.declares (not_on (is_inherited d.decl.form) h.synthesized))
      (and_true (bytes_eq name (name_text d)) (is_below classes class (class_text d)) (text_same name (name_text d) h.named) h.below))

  abbrev is_named : List ℕ → Located → Bool
  is_named name d = is_inherited d.decl.form && bytes_eq name (name_text d)

  inherited_there : (name : List ℕ) → is_inherited_name ds name ≡ true → IsInheritedName ds name
  inherited_there name is =
      let (k, d, at, passes) = there_any (is_named name) ds is in
      let (inherited, named) = both (is_inherited d.decl.form) (bytes_eq name (name_text d)) passes in
      record { position = k; declaration = d; there = at; inherited = inherited; named = same_text name (name_text d) named }

  pub there_inherited : (name : List ℕ) → IsInheritedName ds name → is_inherited_name ds name ≡ true
  there_inherited name h =
      any_there (is_named name) ds h.position h.declaration h.there
      (and_true (is_inherited h.declaration.decl.form) (bytes_eq name (name_text h.declaration)) h.inherited (text_same name (name_text h.declaration) h.named))

  abbrev Passes : Type 0
  Passes = (i : ℕ) (d : Located) → slice_get ds i ≡ Some d → is_of_attribute classes ds d.decl.form ≡ true

  of_attributes : Passes → AreOfAttributes classes ds
  of_attributes pass = record {
    own = λ i d class name params body is form. synthesized_there class.text name.text (ap (is_of_attribute classes ds) (sym form) ∙ pass i d is);
    inherited = λ i d class getter name index params body is form. inherited_there name.text (ap (is_of_attribute classes ds) (sym form) ∙ pass i d is);
  }

  attributes_of : AreOfAttributes classes ds → Passes
  attributes_of h i d is = by d.decl.form refl
    where
      by : (form : DeclForm) → d.decl.form ≡ form → is_of_attribute classes ds form ≡ true
      by (Synthesized lazy kind class name params start ending) e = refl
      by (Inherited lazy kind class name params start) e = refl
      by (Equation class name params body) e = there_synthesized class.text name.text (h.own i d class name params body is e)
      by (InheritedEquation class getter index name params body) e = there_inherited name.text (h.inherited i d class getter name index params body is e)

pub equations_declared : (classes : Classes) (ds : List Located) → (without_attribute classes ds ≡ None) ↔ AreOfAttributes classes ds
equations_declared classes ds = (
  λ none. of_attributes classes ds (λ i d is. off_not (is_of_attribute classes ds d.decl.form)
      (unfaulted (not (is_of_attribute classes ds d.decl.form)) code.EquationWithoutAttribute d
      (none_at (undeclared_at classes ds) ds none i d is))),
  λ h. none_anywhere (undeclared_at classes ds) ds
      (λ i d is. faultless (not (is_of_attribute classes ds d.decl.form)) code.EquationWithoutAttribute d
      (not_off (is_of_attribute classes ds d.decl.form) (attributes_of classes ds h i d is))),
)

-- once -----------------------------------------------------------------------------------------------------------------

same_getters : (o p : Option Word) → is_same_getter o p ≡ true → (v w : Word) × (o ≡ Some v) × (p ≡ Some w) × (v.text ≡ w.text)
same_getters (Some v) (Some w) e = (v, w, refl, refl, same_text v.text w.text e)
same_getters (Some v) None e = absurd cc
same_getters None p e = absurd cc

getters_same : (o p : Option Word) (v w : Word) → o ≡ Some v → p ≡ Some w → v.text ≡ w.text → is_same_getter o p ≡ true
getters_same o p v w e f g = ap (λ x. is_same_getter x p) e ∙ ap (is_same_getter (Some v)) f ∙ text_same v.text w.text g

module _ (d e : Located) where
  abbrev are_own : Bool
  are_own = is_own_equation d.decl.form && is_own_equation e.decl.form

  abbrev are_below : Bool
  are_below = is_same_getter (getter_in d.decl.form) (getter_in e.decl.form)

  for_same : (are_own || are_below) ≡ true → AreForSame d e
  for_same is = elim (either_true are_own are_below is) [
    | inl own ↦ let (f, g) = both (is_own_equation d.decl.form) (is_own_equation e.decl.form) own in rule.own f g
    | inr below ↦ let (v, w, f, g, h) = same_getters (getter_in d.decl.form) (getter_in e.decl.form) below in rule.below v w f g h
  ]

  same_for : AreForSame d e → (are_own || are_below) ≡ true
  same_for (rule.own f g) = ap (λ b. b || are_below) (and_true (is_own_equation d.decl.form) (is_own_equation e.decl.form) f g)
  same_for (rule.below v w f g h) = or_right are_own are_below (getters_same (getter_in d.decl.form) (getter_in e.decl.form) v w f g h)

  abbrev have_same_words : Bool
  have_same_words = bytes_eq (class_text d) (class_text e) && bytes_eq (name_text d) (name_text e)

pub equations_once : (ds : List Located) → (equation_twice ds ≡ None) ↔ AreEquationsOnce ds
equations_once ds = (
  λ none i j d e less is at class name same.
      let off = unfaulted (list_any (is_same_equation e) (take j ds)) code.EquationTwice e (none_at (equation_at ds) ds none j e at) in
      off_on (list_any (is_same_equation e) (take j ds)) off (any_before (is_same_equation e) ds j i d less is
      (and_true (have_same_words e d) (are_own e d || are_below e d) (and_true (bytes_eq (class_text e) (class_text d))
      (bytes_eq (name_text e) (name_text d)) (text_same (class_text e) (class_text d) class)
      (text_same (name_text e) (name_text d) name)) (same_for e d same))),
  λ h. none_anywhere (equation_at ds) ds (λ j e at. faultless (list_any (is_same_equation e) (take j ds)) code.EquationTwice e
      (not_true (list_any (is_same_equation e) (take j ds)) (λ any.
      let (i, d, less, is, same) = before_any (is_same_equation e) ds j any in
      let (one, two) = both (have_same_words e d) (are_own e d || are_below e d) same in
      let (class, name) = both (bytes_eq (class_text e) (class_text d)) (bytes_eq (name_text e) (name_text d)) one in
      h i j d e less is at (same_text (class_text e) (class_text d) class) (same_text (name_text e) (name_text d) name) (for_same e d two)))),
)

-- J12: its test finds nothing exactly where no attribute has the name of an accessor.
use Rattle.std.proofs.Common.{◌≡◌, ℕ, ◌↔◌, Bool, true, false, ◌&&◌, ◌||◌, List, Option, Some, None, refl, sym, true≢false}
use Rattle.std.specs.Prelude.{codes, is_some}
use Rattle.std.specs.Str.{bytes_eq}
use Rattle.at_model.specs.Classes.{Class, Classes}
use Rattle.at_model.specs.Declarations.{first_given}
use Rattle.at_model.proofs.FirstGiven.{none_at, none_anywhere, off_on}
use Rattle.at_model.proofs.GrammarKept.{or_off, off_or, other_text, text_other}
use Rattle.at_model.proofs.Options.{both, not_true}
use Rattle.at_kinds.specs.Accessors.{accessor_named, is_accessed, is_accessor, is_common}
use Rattle.at_kinds.specs.declared.accessors.Accessor.{Accessor}
use Rattle.at_kinds.specs.declared.code.RuleCode.TheVariants as code
use Rattle.at_typing.specs.AspectRules.{AreNoAccessors, IsAccessorName}
use Rattle.at_typing.specs.AspectRules as rule
use Rattle.at_typing.specs.Declaring.{accessor_at, accessor_named as accessors_named, is_attribute, name_text}
use Rattle.at_typing.specs.Located.{Located}
use Rattle.at_typing.proofs.of_aspects.FaultNowhere.{unfaulted, faultless, given_at}

some_none : {A : Type 0} (o : Option A) → is_some o ≡ false → o ≡ None
some_none None e = refl
some_none (Some a) e = absurd (true≢false e)

some_there : {A : Type 0} (o : Option A) → is_some o ≡ true → (a : A) × (o ≡ Some a)
some_there None e = absurd (true≢false (sym e))
some_there (Some a) e = (a, refl)

some_some : {A : Type 0} (o : Option A) (a : A) → o ≡ None → o ≡ Some a → ⊥
some_some None a e f = absurd cc
some_some (Some b) a e f = absurd cc

module _ (classes : Classes) (name : List ℕ) where
  abbrev by_class : ℕ → Class → Option Accessor
  by_class c k = accessor_named classes c name

  free : is_accessor classes name ≡ false → IsAccessorName classes name → ⊥
  free e h =
      let (common, accessed) = or_off (is_common name) (is_accessed classes name) e in
      let (three, number) = or_off ((bytes_eq name (codes "equals") || bytes_eq name (codes "getParent")) || bytes_eq name (codes "getChild")) (bytes_eq name (codes "getNumChild")) common in
      let (two, child) = or_off (bytes_eq name (codes "equals") || bytes_eq name (codes "getParent")) (bytes_eq name (codes "getChild")) three in
      let (text, parent) = or_off (bytes_eq name (codes "equals")) (bytes_eq name (codes "getParent")) two in
      by h text parent child number (some_none (first_given by_class 0 classes) accessed)
    where
      by : IsAccessorName classes name → bytes_eq name (codes "equals") ≡ false → bytes_eq name (codes "getParent")
          ≡ false → bytes_eq name (codes "getChild") ≡ false → bytes_eq name (codes "getNumChild") ≡ false
          → first_given by_class 0 classes ≡ None → ⊥
      by (rule.of_texts s) t p c n none = other_text name (codes "equals") t s
      by (rule.of_parents s) t p c n none = other_text name (codes "getParent") p s
      by (rule.of_children s) t p c n none = other_text name (codes "getChild") c s
      by (rule.of_numbers s) t p c n none = other_text name (codes "getNumChild") n s
      by (rule.of_class b k a at is) t p c n none = some_some (accessor_named classes b name) a (none_at by_class classes none b k at) is

  not_free : (IsAccessorName classes name → ⊥) → is_accessor classes name ≡ false
  not_free h =
      off_or (is_common name) (is_accessed classes name)
      (off_or ((bytes_eq name (codes "equals") || bytes_eq name (codes "getParent")) || bytes_eq name (codes "getChild")) (bytes_eq name (codes "getNumChild"))
      (off_or (bytes_eq name (codes "equals") || bytes_eq name (codes "getParent")) (bytes_eq name (codes "getChild"))
      (off_or (bytes_eq name (codes "equals")) (bytes_eq name (codes "getParent"))
      (text_other name (codes "equals") (λ s. h (rule.of_texts s))) (text_other name (codes "getParent") (λ s. h (rule.of_parents s))))
      (text_other name (codes "getChild") (λ s. h (rule.of_children s)))) (text_other name (codes "getNumChild") (λ s. h (rule.of_numbers s))))
      (not_true (is_accessed classes name) (λ is.
      let (a, found) = some_there (first_given by_class 0 classes) is in
      let (c, k, at, gives) = given_at by_class classes a found in
      h (rule.of_class c k a at gives)))

pub names_free : (classes : Classes) (ds : List Located) → (accessors_named classes ds ≡ None) ↔ AreNoAccessors classes ds
names_free classes ds = (
  λ none i d at is. free classes (name_text d) (second (is_attribute d.decl.form) (is_accessor classes (name_text d)) is
      (unfaulted (is_attribute d.decl.form && is_accessor classes (name_text d)) code.NameOfAccessor d (none_at (accessor_at classes) ds none i d at))),
  λ h. none_anywhere (accessor_at classes) ds (λ i d at.
      faultless (is_attribute d.decl.form && is_accessor classes (name_text d)) code.NameOfAccessor d
      (not_true (is_attribute d.decl.form && is_accessor classes (name_text d)) (λ is.
      let (one, two) = both (is_attribute d.decl.form) (is_accessor classes (name_text d)) is in
      off_on (is_accessor classes (name_text d)) (not_free classes (name_text d) (h i d at one)) two))),
)
  where
    second : (a b : Bool) → a ≡ true → (a && b) ≡ false → b ≡ false
    second true b e f = f
    second false b e f = absurd cc

-- J2: its test finds nothing exactly where each attribute is declared once, and no name is bound twice.
use Rattle.std.proofs.Common.{◌≡◌, ℕ, ◌↔◌, Bool, true, false, ◌&&◌, ◌||◌, not, List, take, Some, None, refl, sym, ◌∙◌, true≢false}
use Rattle.std.specs.Prelude.{if◌then◌else◌}
use Rattle.std.specs.List.{slice_get, list_any}
use Rattle.std.specs.Str.{bytes_eq}
use Rattle.at_model.specs.Classes.{Classes}
use Rattle.at_model.proofs.FirstGiven.{none_at, none_anywhere, off_on, any_before, before_any}
use Rattle.at_model.proofs.GrammarKept.{off_not, not_off, or_off, off_or, same_text, text_same}
use Rattle.at_model.proofs.Options.{both, and_true, not_true}
use Rattle.at_kinds.specs.declared.arguments.Arguments.{Arguments}
use Rattle.at_kinds.specs.declared.arguments.Arguments.TheVariants.{Given, Computed}
use Rattle.at_kinds.specs.declared.code.RuleCode.TheVariants as code
use Rattle.at_typing.specs.AspectRules.{AreApart, AreDeclaredOnce}
use Rattle.at_typing.specs.Declaring.{binds_twice, clashes, class_text, declared_twice, differs, disagrees, has_same_signature, has_same_start, is_attribute, is_below, is_compared, is_inherited, is_on_one_line, name_text, start_in, twice_at}
use Rattle.at_jrag.specs.Syntax.{DeclForm}
use Rattle.at_typing.specs.Located.{Located}
use Rattle.at_typing.proofs.SameStart.{same_start, start_same}
use Rattle.at_typing.proofs.of_aspects.FaultNowhere.{unfaulted, faultless}

second_off : (a b : Bool) → a ≡ true → (a && b) ≡ false → b ≡ false
second_off true b e f = f
second_off false b e f = absurd cc

-- one is synthesized and one inherited, or both are inherited and differ in their kinds or starts
alike_kinds : (x y s : Bool) → (if x then not (y && s) else y) ≡ false → (x ≡ y) × (x ≡ true → s ≡ true)
alike_kinds true true s e = (refl, λ t. off_not s e)
alike_kinds true false s e = absurd cc
alike_kinds false true s e = absurd cc
alike_kinds false false s e = (refl, λ t. absurd (true≢false (sym t)))

kinds_alike : (x y s : Bool) → x ≡ y → (x ≡ true → s ≡ true) → (if x then not (y && s) else y) ≡ false
kinds_alike true true s e h = not_off s (h refl)
kinds_alike true false s e h = absurd cc
kinds_alike false true s e h = absurd cc
kinds_alike false false s e h = refl

-- so it is where they are compared: all of them, or those alone that are inherited
apart_kinds : (allowed : Arguments) (d e : DeclForm) (s : Bool)
    → ((is_compared allowed d && is_compared allowed e) && (if is_inherited d then not (is_inherited e && s) else is_inherited e)) ≡ false
    → (allowed ≡ Given → is_inherited d ≡ is_inherited e) × (is_inherited d ≡ true → is_inherited e ≡ true → s ≡ true)
apart_kinds Given d e s off = let (alike, same) = alike_kinds (is_inherited d) (is_inherited e) s off in (λ g. alike, λ i j. same i)
apart_kinds Computed d e s off = (λ g. absurd cc, by (is_inherited d) (is_inherited e) off)
  where
    by : (x y : Bool) → ((x && y) && (if x then not (y && s) else y)) ≡ false → x ≡ true → y ≡ true → s ≡ true
    by true true off i j = off_not s off
    by true false off i j = absurd (true≢false (sym j))
    by false y off i j = absurd (true≢false (sym i))

kinds_apart : (allowed : Arguments) (d e : DeclForm) (s : Bool) → (allowed ≡ Given → is_inherited d ≡ is_inherited e)
    → (is_inherited d ≡ true → is_inherited e ≡ true → s ≡ true)
    → ((is_compared allowed d && is_compared allowed e) && (if is_inherited d then not (is_inherited e && s) else is_inherited e)) ≡ false
kinds_apart Given d e s alike same = kinds_alike (is_inherited d) (is_inherited e) s (alike refl) (λ i. same i (sym (alike refl) ∙ i))
kinds_apart Computed d e s alike same = by (is_inherited d) (is_inherited e) same
  where
    by : (x y : Bool) → (x ≡ true → y ≡ true → s ≡ true) → ((x && y) && (if x then not (y && s) else y)) ≡ false
    by true true same = not_off s (same refl refl)
    by true false same = refl
    by false y same = refl

module _ (allowed : Arguments) (classes : Classes) (d e : Located) where
  abbrev kinds : Bool
  kinds = has_same_signature d.decl.form e.decl.form

  abbrev starts : Bool
  starts = has_same_start d.decl.form e.decl.form

  apart : (disagrees allowed d.decl.form e.decl.form || is_on_one_line classes (class_text d) (class_text e)) ≡ false → AreApart allowed classes d e
  apart off =
      let (differ, line) = or_off (disagrees allowed d.decl.form e.decl.form) (is_on_one_line classes (class_text d) (class_text e)) off in
      let (below, above) = or_off (is_below classes (class_text d) (class_text e)) (is_below classes (class_text e) (class_text d)) line in
      let (alike, same) = apart_kinds allowed d.decl.form e.decl.form (kinds && starts) differ in
      record {
        alike = alike;
        kinds = λ i j. (both kinds starts (same i j)).0;
        starts = λ i j. same_start (start_in d.decl.form) (start_in e.decl.form) (both kinds starts (same i j)).1;
        below = below;
        above = above;
      }

  not_apart : AreApart allowed classes d e → (disagrees allowed d.decl.form e.decl.form || is_on_one_line classes (class_text d) (class_text e)) ≡ false
  not_apart h =
      off_or (disagrees allowed d.decl.form e.decl.form) (is_on_one_line classes (class_text d) (class_text e))
      (kinds_apart allowed d.decl.form e.decl.form (kinds && starts) h.alike
      (λ i j. and_true kinds starts (h.kinds i j) (start_same (start_in d.decl.form) (start_in e.decl.form) (h.starts i j))))
      (off_or (is_below classes (class_text d) (class_text e)) (is_below classes (class_text e) (class_text d)) h.below h.above)

module _ (allowed : Arguments) (classes : Classes) (ds : List Located) where
  abbrev again : ℕ → Located → Bool
  again i d = is_attribute d.decl.form && list_any (clashes allowed classes d) (take i ds)

  abbrev Passes : Type 0
  Passes = (i : ℕ) (d : Located) → slice_get ds i ≡ Some d → (again i d || binds_twice d.decl.form) ≡ false

  once_by_test : Passes → AreDeclaredOnce allowed classes ds
  once_by_test pass = record {
    attributes = λ i j d e less is at declares other same.
        let none = second_off (is_attribute e.decl.form) (list_any (clashes allowed classes e) (take j ds)) other (or_off (again j e) (binds_twice e.decl.form) (pass j e at)).0 in
        let off = not_true (clashes allowed classes e d) (λ so. off_on (list_any (clashes allowed classes e) (take j ds)) none (any_before (clashes allowed classes e) ds j i d less is so)) in
        apart allowed classes e d (second_off (is_attribute d.decl.form && bytes_eq (name_text e) (name_text d))
        _ (and_true (is_attribute d.decl.form) (bytes_eq (name_text e) (name_text d)) declares
        (text_same (name_text e) (name_text d) same)) off);
    names = λ i d is. (or_off (again i d) (binds_twice d.decl.form) (pass i d is)).1;
  }

  test_by_once : AreDeclaredOnce allowed classes ds → Passes
  test_by_once h i d is =
      off_or (again i d) (binds_twice d.decl.form)
      (not_true (again i d) (λ so.
      let (declares, any) = both (is_attribute d.decl.form) (list_any (clashes allowed classes d) (take i ds)) so in
      let (k, e, less, at, clash) = before_any (clashes allowed classes d) ds i any in
      let (one, two) = both (is_attribute e.decl.form && bytes_eq (name_text d) (name_text e)) (disagrees allowed d.decl.form e.decl.form || is_on_one_line classes (class_text d) (class_text e)) clash in
      let (other, same) = both (is_attribute e.decl.form) (bytes_eq (name_text d) (name_text e)) one in
      off_on (disagrees allowed d.decl.form e.decl.form || is_on_one_line classes (class_text d) (class_text e))
      (not_apart allowed classes d e
      (h.attributes k i e d less at is other declares (same_text (name_text d) (name_text e) same))) two))
      (h.names i d is)

pub declared_once : (allowed : Arguments) (classes : Classes) (ds : List Located) → (declared_twice allowed classes ds ≡ None) ↔ AreDeclaredOnce allowed classes ds
declared_once allowed classes ds = (
  λ none. once_by_test allowed classes ds (λ i d is. unfaulted (again allowed classes ds i d || binds_twice d.decl.form) code.AttributeTwice d (none_at (twice_at allowed classes ds) ds none i d is)),
  λ h. none_anywhere (twice_at allowed classes ds) ds (λ i d is. faultless (again allowed classes ds i d || binds_twice d.decl.form) code.AttributeTwice d (test_by_once allowed classes ds h i d is)),
)

-- Declarations gone through in order: what those mean that were gone through, up to the first fault.
use Rattle.std.proofs.Common.{◌≡◌, ℕ, ◌+◌, ◌<◌, ◌≤◌, List, [], ◌∷◌, zero, suc, length, map, take, get_or, refl, ap, sym, ◌∙◌, subst, Some, None, String, Result, Ok, Err, take_all}
use Rattle.std.specs.Prelude.{All}
use Rattle.std.specs.Global.{Global}
use Rattle.std.specs.Option.{option_or}
use Rattle.std.proofs.lemmas.List.{length-map, take-map}
use Rattle.at_model.specs.Classes.{Classes}
use Rattle.at_rules.specs.declared.rules.Equations.{Equations}
use Rattle.at_typing.specs.AttributeKeys.{AreAttributes, IsAmong}
use Rattle.at_typing.specs.Building.{meanings, refusal, refused, refused_at, first_fault}
use Rattle.at_typing.specs.Declaring.{over_limit, accessor_named, declared_twice, without_attribute, equation_twice, fault_together}
use Rattle.at_kinds.specs.declared.arguments.Arguments.{Arguments}
use Rattle.at_kinds.specs.Judging.{Judgement}
use Rattle.at_typing.specs.Located.{Located}
use Rattle.at_typing.specs.Meanings.{Meaning, meant, signatures}
use Rattle.at_typing.specs.Numbering.{numbered_view, AreNumbered, IsNamed}
use Rattle.at_typing.specs.Seen.{IsAbout, Adds, AddsOrTells, Stands, Means, refusal_of}
use Rattle.at_typing.specs.declared.fault.Breach.{Breach}
use Rattle.at_text.specs.declared.fault.Failure.{Failure}
use Rattle.at_text.specs.declared.fault.Failure.TheVariants as failure
use Rattle.at_typing.specs.declared.meaning.Among.{Among}
use Rattle.at_typing.specs.declared.numbered.Numbered.{Numbered as NumberedValue}
use Rattle.at_kinds.specs.declared.code.RuleCode.{RuleCode}
use Rattle.at_text.specs.declared.fault.Fault.{Fault}
use Rattle.at_text.specs.declared.fault.Fault.TheVariants as type_fault
use Rattle.at_typing.proofs.Gathering.{stands_more, other_none, first_none}
use Rattle.at_class.proofs.Firsts.{NoneBefore, none_more, first_here, none_at_all}

abbrev pub views : List NumberedValue → List Located
views xs = map numbered_view xs

view_at : {X A : Type 0} (v : X → A) (xs : List X) (i : ℕ) (x : X) → v (get_or xs i x) ≡ get_or (map v xs) i (v x)
view_at v [] i x = refl
view_at v (y ∷ ys) zero x = refl
view_at v (y ∷ ys) (suc i) x = view_at v ys i x

-- a declaration's fault is told with its file
pub told : (d : Located) (n : ℕ) (j : Judgement Meaning) (old new : Equations) (e : Fault RuleCode) (r : Failure Breach)
    → r ≡ refusal_of d e → Adds d n j old new (Err e) → AddsOrTells d n j old new (Err r)
told d n j old new (type_fault.Refused c at) r is adds = subst (λ x. AddsOrTells d n j old new (Err x)) (sym is) (ap (refusal d) adds)
told d n j old new type_fault.Memory r is adds = subst (λ x. AddsOrTells d n j old new (Err x)) (sym is) tt

-- of no fault together none is one of several
several : (allowed : Arguments) (classes : Classes) (ds : List Located) → fault_together allowed classes ds ≡ None → (declared_twice allowed classes ds ≡ None) × (equation_twice ds ≡ None)
several allowed classes ds none =
    let others = other_none (accessor_named classes ds) _ (other_none (over_limit ds) _ none) in
    (first_none (declared_twice allowed classes ds) _ others, other_none (without_attribute classes ds) _ (other_none (declared_twice allowed classes ds) _ others))

-- the numbers of one of them are right
among_all : (classes : Classes) (xs : List NumberedValue) (i : ℕ) (d : NumberedValue) → i < length xs → d ≡ get_or xs i d → AreNumbered classes xs → IsAmong classes xs d
among_all classes xs i d less at numbered = subst (IsAmong classes xs) (sym at) (record { class = numbered.class i d less; others = numbered.class; alike = numbered.alike i d less })

-- what is known of attributes is what all of them declare
pub is_about : (xs : List NumberedValue) (i : ℕ) (d : NumberedValue) (a : Among) → i < length xs → d ≡ get_or xs i d
    → a.signatures.now ≡ signatures a.classes.now (map numbered_view xs) → AreAttributes xs a.attributes.now
    → AreNumbered a.classes.now xs → IsAbout xs a d
is_about xs i d a less at signatures attributes numbered = record { signatures = signatures; attributes = attributes; numbers = among_all a.classes.now xs i d less at numbered }

-- what those before this one mean, whatever the numbers of names
abbrev pub StandBefore : Arguments → Classes → List NumberedValue → ℕ → Equations → Type 0
StandBefore allowed classes xs i e = (names : List (String Global)) → All (IsNamed names) xs
    → Stands names (meanings allowed classes (map numbered_view xs) (map numbered_view (take i xs))) e

module _ (allowed : Arguments) (classes : Classes) (xs : List NumberedValue) (i : ℕ) (d : NumberedValue) (old new : Equations) where
  -- one declaration more
  pub stand_more : i < length xs → d ≡ get_or xs i d → fault_together allowed classes (views xs) ≡ None → (u : Unit {0})
      → AddsOrTells (numbered_view d) d.name (meant allowed classes (views xs) (numbered_view d)) old new (Ok u)
      → StandBefore allowed classes xs i old → StandBefore allowed classes xs (i + 1) new
  stand_more less at none u (m, is, added) so_far names all =
      let faultless = several allowed classes (views xs) none in
      subst (λ ds. Stands names (meanings allowed classes (views xs) ds) new) (take-map numbered_view (i + 1) xs)
      (stands_more allowed classes (views xs) i (numbered_view d) d.name names
      (subst (λ n. i < n) (sym (length-map xs numbered_view)) less)
      (ap numbered_view at ∙ view_at numbered_view xs i d) (subst (IsNamed names) (sym at) (all i d less))
      old new m faultless.0 faultless.1 is added
      (subst (λ ds. Stands names (meanings allowed classes (views xs) ds) old) (sym (take-map numbered_view i xs))
      (so_far names all)))

  pub none_refused : (u : Unit {0}) → i < length xs → d ≡ get_or xs i d
      → AddsOrTells (numbered_view d) d.name (meant allowed classes (views xs) (numbered_view d)) old new (Ok u)
      → NoneBefore (refused_at allowed classes (views xs)) numbered_view xs i
      → NoneBefore (refused_at allowed classes (views xs)) numbered_view xs (i + 1)
  none_refused u less at (m, is, added) so_far = none_more (refused_at allowed classes (views xs)) numbered_view xs i d
      less at (ap (refusal (numbered_view d)) is) so_far

  -- the first fault of a declaration by itself
  pub refused_here : (e : Failure Breach) → i < length xs → d ≡ get_or xs i d
      → AddsOrTells (numbered_view d) d.name (meant allowed classes (views xs) (numbered_view d)) old new (Err e)
      → NoneBefore (refused_at allowed classes (views xs)) numbered_view xs i
      → Means allowed classes xs (refused allowed classes (views xs)) (Err e)
  refused_here (failure.For f) less at told so_far = first_here
      (refused_at allowed classes (views xs)) numbered_view xs i d f less at so_far told
  refused_here failure.Memory less at told so_far = tt

-- all of them
pub all_meant : (allowed : Arguments) (classes : Classes) (xs : List NumberedValue) (i : ℕ) (e : Equations)
    → length xs ≤ i
    → NoneBefore (refused_at allowed classes (views xs)) numbered_view xs i → StandBefore allowed classes xs i e
    → Means allowed classes xs (refused allowed classes (views xs)) (Ok e)
all_meant allowed classes xs i e past none stand = (
  none_at_all (refused_at allowed classes (views xs)) numbered_view xs i past none,
  λ names all. subst (λ ds. Stands names (meanings allowed classes (views xs) (views ds)) e) (take_all i xs past)
      (stand names all),
)

-- without a fault of several together
pub together : (allowed : Arguments) (classes : Classes) (xs : List NumberedValue)
    (r : Result Equations (Failure Breach))
    → fault_together allowed classes (views xs) ≡ None → Means allowed classes xs (refused allowed classes (views xs)) r
    → Means allowed classes xs (first_fault allowed classes (views xs)) r
together allowed classes xs r none means =
    subst (λ f. Means allowed classes xs (option_or f (refused allowed classes (views xs))) r) (sym none) means

-- the first fault of several together
pub told_together : (allowed : Arguments) (classes : Classes) (xs : List NumberedValue) (f : Breach)
    → fault_together allowed classes (views xs) ≡ Some f → Means allowed classes xs (first_fault allowed classes (views xs))
    (Err (failure.For f))
told_together allowed classes xs f is = ap (λ o. option_or o (refused allowed classes (views xs))) is

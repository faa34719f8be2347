-- The rules that declarations make, and what they lack.
use Rattle.std.proofs.Common.{◌≡◌, ℕ, ◌+◌, List, [], ◌∷◌, map, refl, sym, ◌∙◌, subst, true≢false, Option, Some, None, zero, suc, String, Result, Ok, Err}
use Rattle.std.specs.Prelude.{Bool, true, false, cond, is_some, option_map, slice_get, IfSome}
use Rattle.std.specs.Global.{Global}
use Rattle.std.specs.List.{filter_map, cons_option, AllZip}
use Rattle.std.proofs.lemmas.Option.{none-some}
use Rattle.at_model.specs.Classes.{Classes}
use Rattle.at_model.specs.Declarations.{first_given}
use Rattle.at_model.specs.Rules.{Rules, Attribute, AreComplete}
use Rattle.at_rules.specs.RulesView.{attribute_view, own_view, inherited_view, named}
use Rattle.at_rules.specs.declared.rules.Equations.{Equations}
use Rattle.at_typing.specs.Building.{meanings, meaning_if, refusal, refused_at, first_fault, rules_of, IsLackBehind, IsLack, IsFault, Builds}
use Rattle.at_complete.specs.Completing.{IsFirst, LacksOwn, LacksInherited}
use Rattle.at_typing.specs.Completing.{IsDeclaredBy, AreDeclared, IsFirstFault}
use Rattle.at_typing.specs.Declaring.{attributes, fault_at, is_attribute, fault_together}
use Rattle.at_kinds.specs.declared.arguments.Arguments.{Arguments}
use Rattle.at_kinds.specs.Judging.{Judgement, Is, Wrong}
use Rattle.at_typing.specs.Located.{Located}
use Rattle.at_typing.specs.Meanings.{Meaning, meant}
use Rattle.at_typing.specs.Numbering.{numbered_view}
use Rattle.at_typing.specs.Seen.{Stands, Tells, Means}
use Rattle.at_typing.specs.declared.fault.Breach.{Breach}
use Rattle.at_kinds.specs.declared.code.RuleCode.{RuleCode}
use Rattle.at_kinds.specs.declared.code.RuleCode.TheVariants as code
use Rattle.at_text.specs.declared.fault.Failure.{Failure}
use Rattle.at_text.specs.declared.fault.Failure.TheVariants as failure
use Rattle.at_typing.specs.declared.numbered.Numbered.{Numbered as NumberedValue}
use Rattle.at_complete.proofs.Completed.{complete}
use Rattle.at_typing.proofs.Gathering.{first_none, other_none}
use Rattle.at_typing.proofs.MeaningParts.{OfAttribute, of_words}

-- attributes that are declared ---------------------------------------------------------------------------------------------

-- where no declaration has a fault, the attributes are those that are declared
all_declared : (allowed : Arguments) (classes : Classes) (all : List Located) (k : ℕ) (some : List Located)
    → first_given (refused_at allowed classes all) k some ≡ None → AllZip (IsDeclaredBy classes) (attributes some)
    (filter_map (λ (m : Meaning). m.attribute) (meanings allowed classes all some))
all_declared allowed classes all k [] none = tt
all_declared allowed classes all k (d ∷ ds) none = by (meant allowed classes all d) refl
    (first_none (refused_at allowed classes all k d)
    _ none) (all_declared allowed classes all (k + 1) ds (other_none (refused_at allowed classes all k d) _ none))
  where
    with_one : (b : Bool) (o : Option Attribute) → is_some o ≡ b → IfSome o (OfAttribute classes d)
        → (xs : List Located) (ys : List Attribute) → AllZip (IsDeclaredBy classes) xs ys
        → AllZip (IsDeclaredBy classes) (cond b (d ∷ xs) xs) (cons_option o ys)
    with_one true None is of xs ys rest = absurd (true≢false (sym is))
    with_one true (Some a) is of xs ys rest = (record { class = of.1; name = sym of.2; is_inherited = of.3 }, rest)
    with_one false None is of xs ys rest = rest
    with_one false (Some a) is of xs ys rest = absurd (true≢false is)

    by : (j : Judgement Meaning) → meant allowed classes all d ≡ j → refusal d j ≡ None
        → AllZip (IsDeclaredBy classes) (attributes ds) (filter_map (λ (m : Meaning). m.attribute)
        (meanings allowed classes all ds))
        → AllZip (IsDeclaredBy classes) (cond (is_attribute d.decl.form) (d ∷ attributes ds) (attributes ds))
        (filter_map (λ (m : Meaning). m.attribute) (cons_option (meaning_if j) (meanings allowed classes all ds)))
    by (Is m) is faultless rest = let of = of_words allowed classes all d m is in
        with_one (is_attribute d.decl.form) m.attribute of.declares of.attribute (attributes ds) _ rest
    by (Wrong c at) is faultless rest = absurd (none-some _ (sym faultless))

pub are_declared : (allowed : Arguments) (classes : Classes) (ds : List Located) (rules : Rules)
    → first_fault allowed classes ds ≡ None → rules ≡ rules_of allowed classes ds → AreDeclared rules ds
are_declared allowed classes ds rules none is = subst (λ r. AreDeclared r ds) (sym is)
    (all_declared allowed classes ds 0 ds (other_none (fault_together allowed classes ds) _ none))

-- the rules themselves
pub same_rules : (allowed : Arguments) (classes : Classes) (ds : List Located) (names : List (String Global))
    (e : Equations) (rules : Rules)
    → Stands names (meanings allowed classes ds ds) e → rules.classes ≡ classes
    → rules.attributes ≡ map (attribute_view names) e.attributes.entries → rules.own ≡ map own_view e.own.entries
    → rules.inherited ≡ map (inherited_view names) (named names e.inherited.entries)
    → rules ≡ rules_of allowed classes ds
same_rules allowed classes ds names e rules stands same attributes own inherited =
    let p = attributes ∙ stands.attributes in
    let q = own ∙ stands.own in
    let r = inherited ∙ stands.inherited in
    λ i. record { classes = same i; attributes = p i; own = q i; inherited = r i }

-- what rules lack ----------------------------------------------------------------------------------------------------------

pub lacks_own : (rules : Rules) (ds : List Located) (own : Option Breach) (e : Failure Breach) → IsFirstFault
    code.ClassWithoutEquation (LacksOwn rules) ds own → Tells (λ f. f ≡ own) (Err e) → Tells (IsLack rules ds) (Err e)
lacks_own rules ds own (failure.For f) first is = (own, first, subst (λ o. IsLackBehind rules ds o (Some f)) is refl)
lacks_own rules ds own failure.Memory first is = tt

pub lacks_inherited : (rules : Rules) (ds : List Located) (own inherited : Option Breach)
    (r : Result (Unit {0}) (Failure Breach)) → IsFirstFault code.ClassWithoutEquation (LacksOwn rules) ds own
    → None ≡ own → IsFirstFault code.InheritedWithoutEquation (LacksInherited rules) ds inherited
    → Tells (λ f. f ≡ inherited) r → Tells (IsLack rules ds) r
lacks_inherited rules ds own inherited r first none other = by r
  where
    behind : (f : Option Breach) → f ≡ inherited → IsLack rules ds f
    behind f is = (own, first, subst (λ o. IsLackBehind rules ds o f) none (subst (IsFirstFault code.InheritedWithoutEquation (LacksInherited rules) ds) (sym is) other))

    by : (r : Result (Unit {0}) (Failure Breach)) → Tells (λ f. f ≡ inherited) r → Tells (IsLack rules ds) r
    by (Ok u) is = behind None is
    by (Err (failure.For f)) is = behind (Some f) is
    by (Err failure.Memory) is = tt

declared_there : (R : Located → Attribute → Type 0) (ds : List Located) (as' : List Attribute) (k : ℕ) (a : Attribute) → AllZip R ds as' → slice_get as' k ≡ Some a → is_some (slice_get ds k) ≡ true
declared_there R [] [] k a zip is = absurd (none-some a is)
declared_there R [] (b ∷ bs) k a zip is = absurd zip
declared_there R (d ∷ ds) [] k a zip is = absurd zip
declared_there R (d ∷ ds) (b ∷ bs) zero a zip is = refl
declared_there R (d ∷ ds) (b ∷ bs) (suc k) a zip is = declared_there R ds bs k a zip.1 is

-- no fault is told only where no attribute has one
pub no_first : (c : RuleCode) (Lacks : ℕ → Type 0) (rules : Rules) (ds : List Located)
    → ((k : ℕ) → Lacks k → (a : Attribute) × (slice_get rules.attributes k ≡ Some a)) → AreDeclared rules ds
    → IsFirstFault c Lacks ds None → IsFirst Lacks None
no_first c Lacks rules ds there declared (None, first, is) = first
no_first c Lacks rules ds there declared (Some k, first, is) =
    let found = there k first.0 in
    absurd (by (slice_get (attributes ds) k) (declared_there (IsDeclaredBy rules.classes) (attributes ds) rules.attributes k found.0 declared found.1) is)
  where
    by : (o : Option Located) → is_some o ≡ true → None ≡ option_map (λ (d : Located). fault_at c d d.decl.at) o → ⊥
    by None at is = true≢false (sym at)
    by (Some d) at is = none-some _ is

-- rules that lack nothing are complete
pub lack_nothing : (rules : Rules) (ds : List Located) → AreDeclared rules ds → IsLack rules ds None → AreComplete rules
lack_nothing rules ds declared (None, first, behind) = complete rules (no_first code.ClassWithoutEquation
    (LacksOwn rules) rules ds (λ k lacks. (lacks.0, lacks.1)) declared first) (no_first code.InheritedWithoutEquation
    (LacksInherited rules) rules ds (λ k lacks. (lacks.0, lacks.1)) declared behind)
lack_nothing rules ds declared (Some f, first, behind) = absurd (none-some f behind)

-- what building comes to ---------------------------------------------------------------------------------------------------

pub built : (allowed : Arguments) (classes : Classes) (ds : List Located) (rules : Rules)
    → first_fault allowed classes ds ≡ None → rules ≡ rules_of allowed classes ds → IsLack rules ds None
    → Builds allowed classes ds (Ok rules)
built allowed classes ds rules none is lack =
    (subst (λ f. IsFault allowed classes ds f None) (sym none) (subst (λ r. IsLack r ds None) is lack), is)

pub lacking : (allowed : Arguments) (classes : Classes) (ds : List Located) (rules : Rules) (e : Failure Breach)
    → first_fault allowed classes ds
    ≡ None → rules ≡ rules_of allowed classes ds → Tells (IsLack rules ds) (Err e) → Builds allowed classes ds (Err e)
lacking allowed classes ds rules (failure.For f) none is lack =
    subst (λ g. IsFault allowed classes ds g (Some f)) (sym none) (subst (λ r. IsLack r ds (Some f)) is lack)
lacking allowed classes ds rules failure.Memory none is lack = tt

-- the first fault of the declarations
pub meant_fault : (allowed : Arguments) (classes : Classes) (xs : List NumberedValue) (e : Failure Breach)
    → Means allowed classes xs
    (first_fault allowed classes (map numbered_view xs)) (Err e) → Builds allowed classes (map numbered_view xs) (Err e)
meant_fault allowed classes xs (failure.For f) is =
    subst (λ g. IsFault allowed classes (map numbered_view xs) g (Some f)) (sym is) refl
meant_fault allowed classes xs failure.Memory is = tt

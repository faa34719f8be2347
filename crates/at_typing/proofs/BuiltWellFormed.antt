-- Rules that are built are well formed.
use Rattle.std.proofs.Common.{◌≡◌, List, Option, Some, None, Result, Ok, Err, IfOk, refl, sym, subst}
use Rattle.std.specs.List.{AllByRecursion}
use Rattle.std.proofs.lemmas.Option.{none-some}
use Rattle.at_model.specs.Classes.{Classes}
use Rattle.at_model.specs.Rules.{Rules}
use Rattle.at_model.specs.WellFormed.{IsHierarchy, AreWellFormed}
use Rattle.at_jrag.specs.Syntax.{Aspect}
use Rattle.at_rules.specs.Circular.{AreCircularLazy, HasNoneCircular}
use Rattle.at_typing.specs.Building.{first_fault, rules_of, IsLack, IsFault, Builds}
use Rattle.at_typing.specs.Declaring.{IsNotCircular}
use Rattle.at_typing.specs.Located.{Located, IsSpelled, located}
use Rattle.at_text.specs.declared.fault.Failure.{Failure}
use Rattle.at_typing.specs.declared.fault.Breach.{Breach}
use Rattle.at_typing.proofs.Built.{are_declared, lack_nothing}
use Rattle.at_typing.proofs.EquationsOfKinds.{circular_kept, none_circular, well_formed}
use Rattle.at_typing.proofs.Literals.{AreIntsIn, located_ints}
use Rattle.at_typing.proofs.Starting.{IsBooleanIn, located_booleans}
use Rattle.at_kinds.specs.declared.arguments.Arguments.{Arguments}

pub declared_well_formed : (allowed : Arguments) (classes : Classes) (ds : List Located) (rules : Rules)
    → IsHierarchy classes
    → AllByRecursion AreIntsIn ds
    → AllByRecursion IsBooleanIn ds → Builds allowed classes ds (Ok rules) → AreWellFormed rules
declared_well_formed allowed classes ds rules hierarchy ints booleans (fault, is) =
    by (first_fault allowed classes ds) refl fault
  where
    by : (o : Option Breach) → first_fault allowed classes ds ≡ o → IsFault allowed classes ds o None
        → AreWellFormed rules
    by None none lack = well_formed allowed classes ds rules hierarchy none is ints booleans
        (lack_nothing rules ds (are_declared allowed classes ds rules none is)
        (subst (λ (r : Rules). IsLack r ds None) (sym is) lack))
    by (Some f) some lack = absurd (none-some f lack)

pub built_well_formed : (allowed : Arguments) (classes : Classes) (files : List (List Aspect)) (rules : Rules)
    → IsHierarchy classes
    → AllByRecursion IsSpelled files → Builds allowed classes (located 1 files) (Ok rules) → AreWellFormed rules
built_well_formed allowed classes files rules hierarchy spelled built =
    declared_well_formed allowed classes (located 1 files) rules hierarchy (located_ints 1 files spelled)
    (located_booleans 1 files spelled) built

pub built_if_ok : (allowed : Arguments) (classes : Classes) (files : List (List Aspect))
    (r : Result Rules (Failure Breach))
    → IsHierarchy classes → AllByRecursion IsSpelled files → Builds allowed classes (located 1 files) r
    → IfOk r AreWellFormed
built_if_ok allowed classes files (Ok rules) hierarchy spelled built =
    built_well_formed allowed classes files rules hierarchy spelled built
built_if_ok allowed classes files (Err e) hierarchy spelled built = tt

-- what holds of the rules of declarations that have no fault holds of those that are built
module _ (allowed : Arguments) (P : Rules → Type 0) (classes : Classes) (ds : List Located)
    (holds : first_fault allowed classes ds ≡ None → P (rules_of allowed classes ds)) where
  of_built : (rules : Rules) → Builds allowed classes ds (Ok rules) → P rules
  of_built rules (fault, is) = subst P (sym is) (by (first_fault allowed classes ds) refl fault)
    where
      by : (o : Option Breach) → first_fault allowed classes ds ≡ o → IsFault allowed classes ds o None
          → P (rules_of allowed classes ds)
      by None none lack = holds none
      by (Some f) some lack = absurd (none-some f lack)

  of_built_if_ok : (r : Result Rules (Failure Breach)) → Builds allowed classes ds r → IfOk r P
  of_built_if_ok (Ok rules) built = of_built rules built
  of_built_if_ok (Err e) built = tt

-- where no declaration has a start, the rules that are built have no circular attribute
pub built_plain : (allowed : Arguments) (classes : Classes) (ds : List Located) (rules : Rules)
    → AllByRecursion IsNotCircular ds
    → Builds allowed classes ds (Ok rules)
    → HasNoneCircular rules
built_plain allowed classes ds rules plain built =
    of_built allowed HasNoneCircular classes ds (λ none. none_circular allowed classes ds none plain) rules built

pub plain_if_ok : (allowed : Arguments) (classes : Classes) (ds : List Located) (r : Result Rules (Failure Breach))
    → AllByRecursion IsNotCircular ds → Builds allowed classes ds r
    → IfOk r HasNoneCircular
plain_if_ok allowed classes ds r plain built =
    of_built_if_ok allowed HasNoneCircular classes ds (λ none. none_circular allowed classes ds none plain) r built

pub kept_if_ok : (allowed : Arguments) (classes : Classes) (ds : List Located) (r : Result Rules (Failure Breach))
    → Builds allowed classes ds r
    → IfOk r AreCircularLazy
kept_if_ok allowed classes ds r built = of_built_if_ok allowed AreCircularLazy classes ds
    (circular_kept allowed classes ds) r built

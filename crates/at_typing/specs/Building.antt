-- Which rules declarations make, or their first fault: of several together before that of one by itself, and that before what a class
-- lacks.
use Rattle.std.specs.Prelude.{◌≡◌, ℕ, List, Option, Some, None, Result, Ok, Err}
use Rattle.std.specs.List.{filter_map}
use Rattle.std.specs.Option.{option_or}
use Rattle.at_model.specs.Classes.{Classes}
use Rattle.at_model.specs.Declarations.{first_given}
use Rattle.at_model.specs.Rules.{Rules}
use Rattle.at_complete.specs.Completing.{LacksOwn, LacksInherited}
use Rattle.at_typing.specs.Completing.{IsFirstFault}
use Rattle.at_typing.specs.Declaring.{fault_at, fault_together}
use Rattle.at_kinds.specs.declared.arguments.Arguments.{Arguments}
use Rattle.at_kinds.specs.Judging.{Judgement, Is, Wrong}
use Rattle.at_typing.specs.Located.{Located}
use Rattle.at_typing.specs.Meanings.{Meaning, meant}
use Rattle.at_typing.specs.declared.fault.Breach.{Breach}
use Rattle.at_kinds.specs.declared.code.RuleCode.TheVariants as code
use Rattle.at_text.specs.declared.fault.Failure.{Failure}
use Rattle.at_text.specs.declared.fault.Failure.TheVariants.{For, Memory}

-- faults ---------------------------------------------------------------------------------------------------------------

abbrev pub refusal : Located → Judgement Meaning → Option Breach
refusal d (Is m) = None
refusal d (Wrong c at) = Some (fault_at c d at)

abbrev pub refused_at : Arguments → Classes → List Located → ℕ → Located → Option Breach
refused_at allowed classes ds i d = refusal d (meant allowed classes ds d)

-- the first fault of a declaration by itself
abbrev pub refused : Arguments → Classes → List Located → Option Breach
refused allowed classes ds = first_given (refused_at allowed classes ds) 0 ds

-- the first fault before any class is looked at for what it lacks
abbrev pub first_fault : Arguments → Classes → List Located → Option Breach
first_fault allowed classes ds = option_or (fault_together allowed classes ds) (refused allowed classes ds)

-- J8, where J7 has no fault
abbrev pub IsLackBehind : Rules → List Located → Option Breach → Option Breach → Type 0
IsLackBehind rules ds (Some own) f = f ≡ Some own
IsLackBehind rules ds None f = IsFirstFault code.InheritedWithoutEquation (LacksInherited rules) ds f

-- the fault of rules in which a class lacks an equation, if there is one
abbrev pub IsLack : Rules → List Located → Option Breach → Type 0
IsLack rules ds f = (own : Option Breach) × IsFirstFault code.ClassWithoutEquation (LacksOwn rules) ds own × IsLackBehind rules ds own f

-- rules ----------------------------------------------------------------------------------------------------------------

abbrev pub meaning_if : Judgement Meaning → Option Meaning
meaning_if (Is m) = Some m
meaning_if (Wrong c at) = None

-- what some of the declarations mean among all of them
abbrev pub meanings : Arguments → Classes → (all some : List Located) → List Meaning
meanings allowed classes all some = filter_map (λ d. meaning_if (meant allowed classes all d)) some

-- the rules that the declarations make
abbrev pub rules_of : Arguments → Classes → List Located → Rules
rules_of allowed classes ds = record {
  classes = classes;
  attributes = filter_map (λ (m : Meaning). m.attribute) (meanings allowed classes ds ds);
  own = filter_map (λ (m : Meaning). m.own) (meanings allowed classes ds ds);
  inherited = filter_map (λ (m : Meaning). m.inherited) (meanings allowed classes ds ds);
}

-- faults of the declarations come before what their rules lack
abbrev pub IsFault : Arguments → Classes → List Located → Option Breach → Option Breach → Type 0
IsFault allowed classes ds (Some first) f = f ≡ Some first
IsFault allowed classes ds None f = IsLack (rules_of allowed classes ds) ds f

-- the rules that the declarations make, where they have no fault; else their first fault; of want of memory nothing is said
abbrev pub Builds : Arguments → Classes → List Located → Result Rules (Failure Breach) → Type 0
Builds allowed classes ds (Ok rules) = IsFault allowed classes ds (first_fault allowed classes ds) None × (rules ≡ rules_of allowed classes ds)
Builds allowed classes ds (Err (For f)) = IsFault allowed classes ds (first_fault allowed classes ds) (Some f)
Builds allowed classes ds (Err Memory) = Unit {0}

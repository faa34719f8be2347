-- The faults of rules in which a class lacks an equation: where they stand.
use Rattle.std.specs.Prelude.{◌≡◌, ℕ, List, Option, None, Some, option_map, slice_get}
use Rattle.std.specs.List.{AllZip}
use Rattle.at_model.specs.Classes.{Classes, class_of_name}
use Rattle.at_model.specs.Rules.{Rules, Attribute}
use Rattle.at_complete.specs.Completing.{IsFirst}
use Rattle.at_typing.specs.Declaring.{attributes, class_text, fault_at, is_inherited, name_text}
use Rattle.at_typing.specs.Located.{Located}
use Rattle.at_typing.specs.declared.fault.Breach.{Breach}
use Rattle.at_kinds.specs.declared.code.RuleCode.{RuleCode}

-- the attribute of the rules is the one that is declared
pub record IsDeclaredBy (classes : Classes) (d : Located) (a : Attribute) : Type 0 where
  pub class : class_of_name classes (class_text d) ≡ Some a.class
  pub name : name_text d ≡ a.name
  pub is_inherited : is_inherited d.decl.form ≡ a.is_inherited

-- the attributes of the rules are those that are declared, in order
abbrev pub AreDeclared : Rules → List Located → Type 0
AreDeclared rules ds = AllZip (IsDeclaredBy rules.classes) (attributes ds) rules.attributes

-- at the declaration of the attribute of that number
abbrev pub fault_of : RuleCode → List Located → Option ℕ → Option Breach
fault_of c ds None = None
fault_of c ds (Some a) = option_map (λ d. fault_at c d d.decl.at) (slice_get (attributes ds) a)

-- the fault of the first attribute of which it is so
abbrev pub IsFirstFault : RuleCode → (ℕ → Type 0) → List Located → Option Breach → Type 0
IsFirstFault c Lacks ds f = (a : Option ℕ) × IsFirst Lacks a × (f ≡ fault_of c ds a)

-- What becomes of the classes of a grammar with these marks, with these constants.
use Rattle.std.specs.Prelude.{◌≡◌, List, None, Result, Ok, Err}
use Rattle.at_model.specs.Classes.{Classes}
use Rattle.at_model.specs.Declarations.{Declarations, Place}
use Rattle.at_model.specs.WellFormed.{IsHierarchy}
use Rattle.at_start.specs.Constants.{Placed, planted_classes}
use Rattle.at_start.specs.ConstantFaults.{Tells, constants_fault}
use Rattle.at_start.specs.declared.fault.StartFault.{StartFault}

-- all can stand, and these are the classes; or their fault is told
abbrev pub IsPlanted : List Place → Declarations → List Placed → Result Classes StartFault → Type 0
IsPlanted marks ds ks (Ok classes) = (constants_fault marks ds ks ≡ None) × (classes ≡ planted_classes marks ds ks) × IsHierarchy classes
IsPlanted marks ds ks (Err e) = Tells (constants_fault marks ds ks) e

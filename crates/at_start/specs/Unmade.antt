-- Why nothing is made of what is written of a constant.
use Rattle.std.specs.Prelude.{◌≡◌, Bool, true, false, Option, None}
use Rattle.at_start.specs.declared.constants.shaping.CellFault.{CellFault}
use Rattle.at_start.specs.declared.constants.shaping.CellFault.TheVariants.{Class, Fit, Memory}

-- A name in it isn't known, or all are known; and nothing is made. Of want of memory nothing is said.
abbrev pub IsUnmade : {A : Type 0} → (known : Bool) → Option A → CellFault → Type 0
IsUnmade known o Class = (known ≡ false) × (o ≡ None)
IsUnmade known o Fit = (known ≡ true) × (o ≡ None)
IsUnmade known o Memory = Unit {0}

-- the same, where a name isn't known
abbrev pub IsUnknown : {A : Type 0} → (known : Bool) → Option A → CellFault → Type 0
IsUnknown known o Class = (known ≡ false) × (o ≡ None)
IsUnknown known o Fit = ⊥
IsUnknown known o Memory = Unit {0}

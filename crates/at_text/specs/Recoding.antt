-- A fault by the codes of another type.
use Rattle.std.specs.Prelude.{◌≡◌}
use Rattle.at_text.specs.declared.fault.Fault.{Fault}
use Rattle.at_text.specs.declared.fault.Fault.TheVariants.{Refused, Memory}

-- of the code, if the fault isn't want of memory
abbrev pub ForCode : {C : Type 0} → Fault C → (C → Type 0) → Type 0
ForCode (Refused code at) P = P code
ForCode Memory P = Unit {0}

-- the same fault at the same place, by a code that belongs to its own
abbrev pub IsRecoded : {C D : Type 0} → (C → D → Type 0) → Fault C → Fault D → Type 0
IsRecoded {C} {D} Belongs (Refused code at) new = (d : D) × Belongs code d × (new ≡ Refused d at)
IsRecoded Belongs Memory new = new ≡ Memory

-- What holds of a fault, and what then holds of the same fault by another code.
use Rattle.std.proofs.Common.{sym, subst}
use Rattle.at_text.specs.declared.place.Place.{Place}
use Rattle.at_text.specs.declared.fault.Fault.{Fault}
use Rattle.at_text.specs.declared.fault.Fault.TheVariants.{Refused, Memory}
use Rattle.at_text.specs.Recoding.{IsRecoded}

pub recoded : {C D : Type 0} (Belongs : C → D → Type 0) (P : Fault C → Type 0) (Q : Fault D → Type 0) (old : Fault C) (new : Fault D) → IsRecoded Belongs old new → P old
    → ((c : C) (d : D) (at : Place) → Belongs c d → P (Refused c at) → Q (Refused d at)) → Q Memory → Q new
recoded Belongs P Q (Refused c at) new (d, belongs, same) p each memory = subst Q (sym same) (each c d at belongs p)
recoded Belongs P Q Memory new same p each memory = subst Q (sym same) memory

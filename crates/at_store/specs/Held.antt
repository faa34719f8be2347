-- What the components of a node hold.
use Rattle.std.specs.Prelude.{List, [], false, take}
use Rattle.at_class.specs.declared.token.TokVal.TheVariants.{Bool}
use Rattle.at_store.specs.declared.components.Components.{Components}
use Rattle.at_store.specs.declared.components.Components.TheVariants.{None, One, Two, Three, Four, More}
use Rattle.at_store.specs.declared.entry.Slot.{Slot}
use Rattle.at_store.specs.declared.entry.Slot.TheVariants.{Token}

-- the places that are filled
abbrev pub held : Components → List Slot
held None = []
held (One count row) = take count row.value.places
held (Two count row) = take count row.value.places
held (Three count row) = take count row.value.places
held (Four count row) = take count row.value.places
held (More slots) = slots.value.items

-- what stands in a place that isn't filled
abbrev pub vacant_slot : Slot
vacant_slot = Token (Bool false)

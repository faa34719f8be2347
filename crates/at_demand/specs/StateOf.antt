-- The state of questions as they are.
use Rattle.at_cache.specs.Kept.{Entries}
use Rattle.at_cache.specs.Traced.{Memories}
use Rattle.at_demand.specs.State.{State, state_by}
use Rattle.at_demand.specs.declared.demand.Demand.{Demand}

abbrev pub state_of : {K : Type 0} → (K → Entries) → (K → Memories) → Demand K → State
state_of entries memories d = state_by entries memories d.keeper d.work d.made

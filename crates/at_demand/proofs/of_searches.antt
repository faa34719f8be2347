-- The search of a level: its steps, and where it ends.
pub mod Circling
pub mod Following
pub mod Reaching
pub mod OnceTold
pub mod Returning
pub mod Moving
pub mod Stepping
pub mod LookedAlong
pub mod Overgoing
pub mod NextTried
pub mod Costing
pub mod SearchedOn
pub mod SearchedTo
pub mod Reasoning
pub mod ReasonedTurns

pub mod Coming
pub mod Keys
pub mod Orderly
pub mod Recalling
pub mod Truth
pub mod Seeing
pub mod of_keeping
pub mod Supported
pub mod Gathered
pub mod Entering
pub mod Passing
pub mod Leading
pub mod OnlyLemmas
pub mod Gaining
pub mod Working
mod InnerAnswered
mod GrownAhead
pub mod of_steps
pub mod Naming
pub mod TypedKnown
pub mod TypingLemmas
mod Attempted
mod Turned
pub mod Standing
pub mod Few
mod Fitting
mod Putting
pub mod of_traces
pub mod Extending
mod Questioned
mod Marking
mod Grouped
mod of_groups
pub mod of_searches
pub mod of_levels

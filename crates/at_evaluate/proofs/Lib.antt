mod Begun
mod Compared
mod Nearby
mod Passed
pub mod Sameness
mod Sought
pub mod Entered
pub mod Tests
pub mod LeadingOn
pub mod There
pub mod Counting
pub mod of_nesting
mod of_parts
pub mod of_traces

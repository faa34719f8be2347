-- Of runs: one edge for a fold.
pub mod Along
pub mod Following
pub mod Over
pub mod Passed
pub mod Reaching
pub mod Seats
pub mod Stretches

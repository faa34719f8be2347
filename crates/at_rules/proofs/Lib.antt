mod Counting
mod Dispatching
pub mod FirstNaming
mod Starting
mod Guessed
mod HoldingLemmas
mod Lookups
pub mod NameNumbers
pub mod Numeric
mod Numbers
pub mod Earlier
pub mod UpwardLemmas

pub mod CommandLineLemmas
mod CommandLineFacts
pub mod OptionsRead
pub mod Entries
pub mod WholeRows
pub mod Taken
pub mod Parses
pub mod Asking
mod DoorsLemmas

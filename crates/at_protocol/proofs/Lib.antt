pub mod Spaces
pub mod Cuts
pub mod Values
pub mod Answering
mod Arguments
pub mod CommandsLemmas
pub mod Parts
pub mod CallsLemmas
pub mod Utf8
pub mod Lines
pub mod Sessions
pub mod Numbers
pub mod Places
pub mod Replies
pub mod Fronts

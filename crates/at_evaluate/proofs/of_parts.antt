-- Evaluations in one go, part by part: what they come to, and what comes to what is held.
pub mod Looked
pub mod Directly
pub mod ByForm
pub mod Looping
pub mod AtOnce
pub mod PassedBy
pub mod Searching

pub mod Prelude
pub mod Folding
pub mod Refolding
pub mod Rerunning
pub mod Joining
pub mod Desks

pub mod Walks
pub mod Hierarchies
pub mod Completing

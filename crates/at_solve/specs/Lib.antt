pub mod Derivations
pub mod Spreading
pub mod Components
pub mod Searching

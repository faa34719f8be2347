pub mod Recorded
pub mod LedTo
pub mod Systems
pub mod Solved

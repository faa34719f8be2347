pub mod Shortened
pub mod ByKey
pub mod DrawnFrom
pub mod CirclesKept
pub mod Folded

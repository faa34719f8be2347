pub mod EachOnce
pub mod Closing

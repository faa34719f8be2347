pub mod Climbing
pub mod Walking
mod Exposing
mod Lacking
mod Children
mod Attributes
pub mod Completed

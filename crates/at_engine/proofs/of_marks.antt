pub mod Marked
pub mod Tallies
pub mod Keys
pub mod Leaving
pub mod Marking
pub mod Copying
pub mod LastPlace

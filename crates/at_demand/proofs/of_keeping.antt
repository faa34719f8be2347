pub mod Staying
pub mod StayingRight
pub mod StayingSpare
pub mod SparedLemmas
pub mod CalledAsked
pub mod CalledMet
pub mod CalledEdited
pub mod CalledLemmas

pub mod Placed
pub mod WorldsLemmas
pub mod Fitted
pub mod Noted

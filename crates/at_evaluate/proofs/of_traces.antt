-- What can be kept again: that its evaluation would go the same way, and what comes of it.
pub mod SameWay
pub mod Justified
pub mod Settled
pub mod OfTree
pub mod Lazily
pub mod Making
pub mod Putting

pub mod Signatures
pub mod Accessors
pub mod Kinds
pub mod Judging
pub mod Typed
pub mod KindTable
pub mod SampleForms

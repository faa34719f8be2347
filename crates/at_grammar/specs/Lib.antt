pub mod Grammar
pub mod Meaning
pub mod Faults
pub mod Table
pub mod Forms

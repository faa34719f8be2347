pub mod Finding
pub mod Sought
pub mod Standing

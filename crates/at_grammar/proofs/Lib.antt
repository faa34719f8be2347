pub mod Paths
pub mod Loops
pub mod Meanings
pub mod Tokens
pub mod Accepts
pub mod Unique
pub mod Files
pub mod OneFault

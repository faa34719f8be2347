pub mod Ground
pub mod Remembered
pub mod InnerPuts
pub mod InnerGains
pub mod Asked
pub mod Grown
pub mod Demanding

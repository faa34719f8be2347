pub mod FittingAlike
pub mod Asked

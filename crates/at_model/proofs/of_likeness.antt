pub mod ExpressionsAlike
pub mod Carrying
pub mod EquationsAlike
pub mod CarryingSupport
pub mod TriesAlike
pub mod CarryingCircles
pub mod AlikeBack

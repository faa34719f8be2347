pub mod Common
mod of_folding

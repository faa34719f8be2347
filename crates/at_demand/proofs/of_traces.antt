-- What becomes of what can be kept again over turns and edits.
pub mod TurnsPut
pub mod MadeAgain
pub mod Untouched
pub mod Forgetting

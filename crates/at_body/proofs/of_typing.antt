-- What is tried is of the right kinds.
pub mod TypedParts
pub mod TypedUses
pub mod TypedFolds
pub mod TypedAnswers
pub mod TypedSteps
pub mod TypedShown
pub mod TypedSeeks
pub mod TypedAbove
pub mod TypedStarting
pub mod TypedInstances
pub mod TypedBegins

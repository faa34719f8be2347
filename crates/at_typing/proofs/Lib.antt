mod Appending
mod Locating
mod Binding
mod FirstFaults
mod FirstValues
mod LongTexts
mod of_attributes
mod WordNumbers
mod AccessorNaming
mod SameKinds
mod SameStart
mod EquationsBefore
mod Earlier
mod ClassesBelow
mod Lines
mod Keys
mod Adding
mod MeaningParts
mod ParamsNamed
mod Gathering
mod InOrder
mod Built
mod Spelled
pub mod Starting
pub mod Literals
mod KindsJudged
mod KindsOfBodies
mod Singles
mod EquationsOfKinds
mod of_aspects
pub mod BuiltWellFormed

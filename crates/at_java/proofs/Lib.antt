pub mod Then
mod Loops
mod Spellings
mod Exits
mod Steps
pub mod Nexts
pub mod ItemLists
pub mod ParamLists
mod ElementLists
mod AdditionLists
mod Suffixes
mod Computed
mod Integers
pub mod AspectLists
pub mod DeclarationLists
pub mod Nestings
pub mod Fronts
pub mod Methods
pub mod Texts
pub mod SeenForms
pub mod Copied
pub mod Counted
pub mod Blocks
pub mod Rewritten
pub mod Small
pub mod Resolved
pub mod InMaps

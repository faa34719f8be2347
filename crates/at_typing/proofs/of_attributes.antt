pub mod AttributesCounted
pub mod AttributesFound
pub mod Clashing
pub mod AttributesDeclared
pub mod KindsDeclared
pub mod InheritedAlike

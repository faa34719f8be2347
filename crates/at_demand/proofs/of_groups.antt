-- Instances that are solved together: what is kept and found of a group, and what is told then.
pub mod KeptOrFound
pub mod Telling
pub mod TellingOne
pub mod Members
pub mod KeptGroup
pub mod SolvedGroups
pub mod MarkedSolved

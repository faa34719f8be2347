-- Entries that are folded into others.
pub mod AtDesks
pub mod Distinct
pub mod Folded
pub mod Gathering
pub mod Joined
pub mod Linking
pub mod Made
pub mod Nodes
pub mod Parting
pub mod Places
pub mod Reheld
pub mod Relinking
pub mod Rerun
pub mod Single
pub mod Taken
pub mod Walking

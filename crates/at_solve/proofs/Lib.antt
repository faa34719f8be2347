mod SpreadingLemmas
mod UserLemmas
mod Looking
mod Places
mod Entering
mod Merging
mod Leaving
mod Stepping

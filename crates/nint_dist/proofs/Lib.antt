-- The lemma files; other crates may cite those that are pub.
mod Distances
mod Roots
pub mod Triangle

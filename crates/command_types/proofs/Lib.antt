-- The lemma files. Those that are `pub` may be used in crates above.
pub mod AddLemmas
pub mod PassLemmas

-- The lemma files, which other crates may cite.
pub mod PieceLemmas
pub mod PlaceLemmas
pub mod WordLemmas
pub mod NumberLemmas
pub mod PrefixLemmas
pub mod LawProofs
pub mod GrammarProofs

-- The lemma file, only for this crate.
mod StageLemmas

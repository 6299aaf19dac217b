-- The lemma files, for this crate only.
mod AnnealLemmas
mod AuditLemmas
mod HybridLemmas
mod SearchLemmas

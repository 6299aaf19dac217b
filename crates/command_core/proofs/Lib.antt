-- The lemma files. Those that are `pub` may be used in crates above.
mod StepLimitLemmas
pub mod CountLemmas
pub mod Examples
pub mod InvariantLemmas
mod PlanCheckLemmas
pub mod ListLemmas
pub mod MarkLemmas
pub mod NumberLemmas
pub mod PinLemmas
pub mod InsertionLemmas
mod ReduceLemmas
pub mod RunLemmas
pub mod SearchLemmas
pub mod WithdrawLemmas

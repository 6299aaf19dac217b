-- The lemma files, which crates above may cite.
pub mod ActLemmas
pub mod CommandLemmas
pub mod CauseLemmas
pub mod CutLemmas
pub mod EndLemmas
pub mod InputLemmas
pub mod LastLineLemmas
pub mod ReplyLemmas
pub mod ServeLemmas
pub mod CrashRecoveryLemmas
pub mod StreamLemmas
pub mod StrictLemmas
pub mod TakeLemmas
pub mod AnswerOrderLemmas
pub mod AttemptLemmas
pub mod TurnLemmas

-- The lemma files of this crate.
mod Headlines
mod RunLemmas
mod StepLemmas
mod SessionLemmas
mod Replays
mod Openings
mod Upgrades
mod RoundLemmas
mod FoldLemmas
mod LinkLemmas
mod RestartLemmas
mod CompositionLemmas

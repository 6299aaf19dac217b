pub mod RetryLemmas

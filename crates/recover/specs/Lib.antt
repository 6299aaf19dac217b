-- modules that public contracts use
pub mod Names
pub mod RecoversTo
pub mod Replies
pub mod Moments
pub mod Opening
pub mod Sessions
pub mod Applying
pub mod Upgrading
pub mod Headline
pub mod Reopening
pub mod Composition
pub mod Rounds
pub mod Folds
pub mod Links
pub mod Restarts
-- modules that only private functions use
pub mod Committing
pub mod Replaying

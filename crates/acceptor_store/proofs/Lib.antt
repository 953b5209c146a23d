mod AcknowledgedLemmas
mod BegunLemmas
mod ClosingLemmas
mod GivingLemmas
mod RestartLemmas
mod StepLemmas
mod TestingLemmas
pub mod ColumnLemmas
pub mod EntryColumnLemmas
pub mod FitLemmas
pub mod GroupLemmas
pub mod IdentityLemmas
pub mod LayoutLemmas
pub mod ListLemmas
pub mod MakingLemmas
pub mod OpeningLemmas
pub mod ReadingLemmas
pub mod RestLemmas
pub mod RowsAsEntriesLemmas
pub mod SaveLemmas
pub mod StandLemmas
pub mod TableLemmas
pub mod UpgradeLemmas

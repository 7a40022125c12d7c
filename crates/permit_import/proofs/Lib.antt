pub mod RecordLemmas
pub mod ReadLemmas
pub mod WriteLemmas
pub mod CauseLemmas
pub mod HeadingLemmas
pub mod Progress
pub mod Ending
pub mod OfficeRuns

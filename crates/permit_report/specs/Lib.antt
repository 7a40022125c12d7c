pub mod CivilDates
pub mod Dates
pub mod Outgoing
pub mod Progress
pub mod Taken
pub mod Whole

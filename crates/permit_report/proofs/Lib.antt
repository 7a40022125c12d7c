pub mod Calendar
pub mod Columns
pub mod Dates
pub mod Digits
pub mod Padded
pub mod Parts
pub mod Takes
pub mod Writes

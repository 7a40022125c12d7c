pub mod Counted
mod Added
pub mod Planned
pub mod Seconds
pub mod Simple
pub mod SixParts
pub mod Unread
pub mod Values

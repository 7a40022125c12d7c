pub mod Both
pub mod Asked
pub mod Seen
pub mod Pairs
pub mod Index
pub mod Search
pub mod Covered

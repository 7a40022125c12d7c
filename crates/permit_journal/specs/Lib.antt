pub mod Files
pub mod Journals
pub mod Ends
pub mod Parts
pub mod Shown

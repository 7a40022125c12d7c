mod Adding
mod Telling
mod Entering
pub mod Stepping
mod Resumed
mod Cutting
pub mod Deciding
pub mod Opened
pub mod Running

pub mod Lines
pub mod Logs
pub mod Recorded
pub mod Resuming
pub mod Laws
pub mod Runs

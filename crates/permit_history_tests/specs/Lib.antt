pub mod Memory
pub mod Stopping

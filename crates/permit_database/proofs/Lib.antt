mod Exchanged
mod Failures
mod FoundedFirst
mod Renewals
mod Renewed
mod Served
mod Surviving
pub mod Doings
pub mod Brought
pub mod Opened
pub mod Placed

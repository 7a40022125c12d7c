mod Lists
mod Kept
mod Keeping
mod Selecting
pub mod Sifting
pub mod Sieving
mod Passing
mod Places
pub mod Marks
mod LedBefore
pub mod Loading
pub mod Renewals
pub mod RenewedHistories

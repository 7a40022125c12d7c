pub mod Offices
pub mod Looks
pub mod Version
pub mod UpgradeMeaning
pub mod Upgrades
pub mod Reopening
pub mod WholeMeanings
pub mod Shaped
pub mod Taking
pub mod Unclashed
pub mod Checks
pub mod FileChecks
pub mod Opened
pub mod Neighbours
pub mod Answered
pub mod PapersAnswered
pub mod Refused
pub mod Calls
mod Numbered
mod Tallies
mod Soundness
mod SameOrder
mod FilesFilled
mod Passing
mod SoundUpgrade
mod Upgrading
mod Refusing
mod Followed
mod Naming
mod PapersNamed
mod DeskNamed
mod InOrder
mod Firsts
mod Turns
pub mod SoundRenewal
pub mod Renewing
mod TokenRenewal
mod Stepping

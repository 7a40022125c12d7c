pub mod Accepted
pub mod Copied
pub mod Upgraded
pub mod Reading
pub mod Renewed
pub mod Standing
pub mod Telling
pub mod Leaving
pub mod Counted
mod Numbered
mod AlikeTables
mod Declared
mod Stepping
mod Transferred
mod Added
mod Sorted
mod Numbering
mod Few
mod SealedTables
mod OneOrder
mod OneSeal
pub mod SoundTables
pub mod Lines
pub mod Looking
pub mod Opened
pub mod Placed
pub mod Brought

pub mod Blames
pub mod Checks
pub mod Commands
pub mod FactsText
pub mod Faults
pub mod Keepings
pub mod Lines
pub mod Plans

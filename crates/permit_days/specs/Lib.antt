pub mod Dates
pub mod Instants

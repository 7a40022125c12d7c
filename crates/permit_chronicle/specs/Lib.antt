pub mod Lines
pub mod Wanted
pub mod Telling
pub mod Evidence

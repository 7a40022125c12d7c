pub mod NoneServed
pub mod Histories

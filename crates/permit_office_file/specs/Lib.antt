pub mod Copied
pub mod Either

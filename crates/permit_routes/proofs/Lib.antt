pub mod Ascii
pub mod Numbers
pub mod Rows
pub mod Spellings
pub mod Tokens
mod Made

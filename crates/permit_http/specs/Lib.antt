pub mod Stream
pub mod Head
pub mod Message
pub mod Spans
pub mod Errors
pub mod Needed

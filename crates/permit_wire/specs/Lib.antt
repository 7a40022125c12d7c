pub mod Asked
pub mod Reading
pub mod Serving
pub mod Conversation
pub mod Requests
pub mod Written

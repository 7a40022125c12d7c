pub mod Pace
pub mod Taking
pub mod Listening
pub mod Ending

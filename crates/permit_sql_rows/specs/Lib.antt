pub mod Schema
pub mod Shape
pub mod Rows
pub mod Kept
pub mod Typed
pub mod Shown

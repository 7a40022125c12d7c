pub mod Shown
pub mod Takes
pub mod Shapes
pub mod Lists
pub mod Reasons

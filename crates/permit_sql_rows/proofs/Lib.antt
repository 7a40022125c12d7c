pub mod Coded
pub mod Stated
pub mod Shapes
pub mod Ascii
pub mod Shown

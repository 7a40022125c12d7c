pub mod Connection
pub mod Dated
pub mod Printed
pub mod RegisterRows
pub mod Shown

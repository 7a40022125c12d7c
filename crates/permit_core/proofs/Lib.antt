pub mod SameReasons
pub mod RowSounds
pub mod RowMore

pub mod Blocks
pub mod Children
pub mod Rows
pub mod Whole
pub mod Admitted

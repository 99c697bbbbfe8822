pub mod Form
pub mod Laid
pub mod Judged
pub mod Calls

pub mod Judged
pub mod Internal

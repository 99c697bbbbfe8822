pub mod Outcome
pub mod Internal

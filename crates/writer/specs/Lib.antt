pub mod Written
pub mod Internal

pub mod Looked
pub mod Internal

pub mod Spanned
pub mod Internal

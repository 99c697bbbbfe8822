-- What serves the contracts within the crate alone.
pub mod Named
pub mod Fitting
pub mod Reading

-- What serves the contracts within the crate alone.
pub mod Stages

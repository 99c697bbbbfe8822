-- What serves the contracts within the crate alone; what the lookup promises is in Looked, and does not mention it.
pub mod Step

-- What serves the contracts within the crate alone; what the call promises is in Outcome, and does not mention it.
pub mod Known
pub mod Walk
pub mod Judged

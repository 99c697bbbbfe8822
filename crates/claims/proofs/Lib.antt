pub mod ExamplesHold
pub mod LargeExamples
pub mod Claims

pub mod Apart
pub mod Finish
pub mod ThirdStage
pub mod Lengths
pub mod Placed
pub mod Tally
pub mod Told

pub mod Order
pub mod Means
pub mod Numbered
pub mod Match
pub mod Stage
pub mod Words
pub mod Run
pub mod Done

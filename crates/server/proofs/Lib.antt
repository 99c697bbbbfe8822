pub mod Slots
pub mod Follow
pub mod Steps
pub mod Lent

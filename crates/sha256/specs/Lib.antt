pub mod Sha256
pub mod Constants
pub mod Schedule
pub mod WordsTaken
pub mod Hash
pub mod Internal

-- The laws that the proofs rest on. Other crates cite `Laws`.
pub mod Laws
pub mod Constants
pub mod Bits
pub mod Rotation
pub mod Sums
pub mod Recurrence
pub mod WordsTaken
pub mod RoundsTaken
pub mod Stores
pub mod LastBlocks

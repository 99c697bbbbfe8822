-- The answers of all calls: a result, or a refusal with its number and two positions.
pub mod Answer
pub mod Refusal
pub mod Order
pub mod Result
pub mod Word
pub mod Run

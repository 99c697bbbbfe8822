pub mod Filled
pub mod Hashes
pub mod Steps
pub mod Along
pub mod Asking
pub mod Writing
pub mod Answering

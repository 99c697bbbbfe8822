pub mod Counted
pub mod Stages
pub mod Written

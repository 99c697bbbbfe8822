pub mod Filled
pub mod Place

pub mod Filled
pub mod Later
pub mod Laws
pub mod Match

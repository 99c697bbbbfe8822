pub mod Laws
pub mod Lent
pub mod Filling
pub mod Places

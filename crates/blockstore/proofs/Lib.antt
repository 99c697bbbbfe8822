pub mod Laws
pub mod Admitted
pub mod Due
pub mod Calls

pub mod Conditions
pub mod Apart
pub mod Told
pub mod UsersRefused
pub mod CheckTold

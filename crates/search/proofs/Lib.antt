pub mod Bool
pub mod Search
pub mod Place
pub mod Pairs
pub mod First
pub mod Greatest

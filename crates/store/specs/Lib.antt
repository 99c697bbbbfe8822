-- In reading order.
pub mod Place
pub mod Calls
pub mod Meaning
pub mod Retrieved
pub mod Runs
pub mod RoundTrip

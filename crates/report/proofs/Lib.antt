pub mod Digits
pub mod Spaced
pub mod Output
pub mod UsersPrinted
pub mod ExamplePrinted

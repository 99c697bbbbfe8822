-- In reading order.
pub mod Decimal
pub mod Printed
pub mod Print
pub mod UsersPrinted
pub mod ExamplePrinted

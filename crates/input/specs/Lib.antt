-- In reading order.
pub mod Form
pub mod Report
pub mod UsersRefused
pub mod CheckTold

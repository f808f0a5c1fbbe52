-- Of which calls the own requests and results are.
pub mod Placed
pub mod Rows
pub mod Others
pub mod Effects
pub mod Requests

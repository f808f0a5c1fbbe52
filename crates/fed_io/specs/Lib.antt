pub mod Fault
pub mod Inner
pub mod Io
pub mod Memory
pub mod Quiet
pub mod Trim
pub mod Text

-- What a row tells, it tells once.
pub mod Tells
pub mod Inputs
pub mod First
pub mod Resumed
pub mod Events
pub mod Whole

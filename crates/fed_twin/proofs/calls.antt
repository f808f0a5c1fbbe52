-- What two worlds know of a call, and the rows of the table.
pub mod Call
pub mod Row
pub mod Get
pub mod Outcome
pub mod Few
pub mod Disconnect
pub mod Facts

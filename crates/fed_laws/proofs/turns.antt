-- What the tables do with what is known of a call.
pub mod First
pub mod Turn
pub mod Settle
pub mod Way

-- What the providers offer to a call, as the code has it and as the table has it.
pub mod Offered
pub mod Reselected
pub mod Settled
pub mod Single
pub mod Listed

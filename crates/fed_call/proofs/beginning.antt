-- What a call with several providers comes to as it begins.
pub mod Settled

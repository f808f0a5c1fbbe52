-- A request for a token has its cause.
pub mod Come
pub mod Awaits
pub mod First
pub mod Known
pub mod Cause
pub mod Dialog
pub mod Caused
pub mod Agreed
pub mod Picked

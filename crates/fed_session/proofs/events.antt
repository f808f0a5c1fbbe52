-- What each event owes to the trace.
pub mod Event
pub mod Begin
pub mod Input
pub mod Resume

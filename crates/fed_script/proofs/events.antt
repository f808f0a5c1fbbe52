-- What a line of an event is read as.
pub mod Event

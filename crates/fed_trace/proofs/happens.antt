-- What happens to a call at an event.
pub mod Says
pub mod Ends
pub mod Resumed
pub mod First
pub mod Happens
pub mod Over
pub mod Taken
pub mod Disconnects
pub mod Gets

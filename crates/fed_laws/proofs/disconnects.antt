-- What stands of a disconnect call: its files, and its request.
pub mod Turns
pub mod Files
pub mod Sending

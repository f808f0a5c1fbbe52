-- What is compared of twins.
pub mod Requests
pub mod Sends
pub mod Compare

-- How a server reads an own request, and what an audit finds in it.
pub mod Heads
pub mod Due

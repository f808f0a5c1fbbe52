-- Calls and their nodes, as calls come and go.
pub mod Owned
pub mod Comes

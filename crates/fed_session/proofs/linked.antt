-- Pending calls as nodes of linked lists, and the links that an event reads or writes.
pub mod Linked

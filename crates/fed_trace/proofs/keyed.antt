-- Values that come and go under keys.
pub mod Keyed
pub mod Entries

-- What `url` reads as a URL of the web is one: its parts are as the standard has them.
pub mod Addresses
pub mod Hosts
pub mod Paths
pub mod Parsed

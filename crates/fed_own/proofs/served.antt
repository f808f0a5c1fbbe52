-- A good request can be read by a server.
pub mod Bytes
pub mod Back
pub mod Asks
pub mod Readable
pub mod Sent
pub mod Said

-- Lines of bytes, and the header.
pub mod Places
pub mod Line
pub mod Header
pub mod Walk

pub mod Chunk
pub mod Found
pub mod Head
pub mod Section

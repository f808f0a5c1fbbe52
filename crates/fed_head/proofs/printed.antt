-- What is printed is read back.
pub mod Section
pub mod Head
pub mod Chunk

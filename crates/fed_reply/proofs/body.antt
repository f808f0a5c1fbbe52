-- The framing of a body, and its chunks.
pub mod Length
pub mod Framing
pub mod Chunks
pub mod Chunked

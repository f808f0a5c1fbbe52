pub mod Mine
pub mod Side
pub mod Laws
pub mod Reads

-- What the links show is the lists.
pub mod Counts
pub mod Walks
pub mod Neighbours

-- Numbers that are joined into sets.
pub mod Sets
pub mod Linked
pub mod Least
pub mod Texts
pub mod Pairs
pub mod Loaded
pub mod Told
pub mod Risen

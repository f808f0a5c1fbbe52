pub mod Part
pub mod Closure
pub mod Slice
pub mod Lines
pub mod Sets
pub mod Linked
pub mod Gather

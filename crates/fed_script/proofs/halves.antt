-- Two scripts in one input.
pub mod Half
pub mod Further
pub mod Within

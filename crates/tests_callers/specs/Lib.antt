pub mod Named
pub mod Compared
pub mod Others

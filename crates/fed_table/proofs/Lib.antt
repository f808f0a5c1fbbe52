pub mod mapped
pub mod found
pub mod owned
pub mod listed
pub mod closing

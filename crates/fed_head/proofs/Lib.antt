pub mod printed
pub mod found

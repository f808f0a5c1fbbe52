pub mod printing
pub mod values

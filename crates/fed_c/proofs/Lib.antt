pub mod forms
pub mod handles

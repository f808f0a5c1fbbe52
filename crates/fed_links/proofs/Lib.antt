pub mod threads
pub mod views
pub mod tied
pub mod calls

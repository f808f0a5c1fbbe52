pub mod asked
pub mod body
pub mod head
pub mod value

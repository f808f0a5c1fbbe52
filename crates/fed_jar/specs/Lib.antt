pub mod Cookie
pub mod Send
pub mod Store
pub mod Changes
pub mod Limit
pub mod Packed
pub mod Parts
pub mod Laws

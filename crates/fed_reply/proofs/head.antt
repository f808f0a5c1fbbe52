-- The head of a reply and its fields.
pub mod Fields
pub mod Values
pub mod Named
pub mod Front
pub mod Asked

-- The rows of a call, and what they leave known of it.
pub mod Choice
pub mod Settles
pub mod Gathers

-- A token reaches the page that asked for it.
pub mod Token
pub mod Answered

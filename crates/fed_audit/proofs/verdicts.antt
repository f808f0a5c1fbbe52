-- Which clause a record fails first.
pub mod Requests
pub mod Tokens
pub mod Judged
pub mod Places
pub mod Lines
pub mod Audited
pub mod Once
pub mod Counted

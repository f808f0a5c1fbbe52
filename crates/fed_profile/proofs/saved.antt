-- A saved session goes on as the session itself.
pub mod Jar
pub mod Same
pub mod Steps
pub mod Base
pub mod Pending
pub mod Goes
pub mod Restore
pub mod Continues
pub mod Views
pub mod Script
pub mod Back
pub mod Times
pub mod Further

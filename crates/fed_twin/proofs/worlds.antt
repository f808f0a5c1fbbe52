-- Two worlds after a kept event, and after all of them.
pub mod Flip
pub mod Grow
pub mod Pages
pub mod Steps
pub mod Disconnects
pub mod Windows
pub mod Resumes
pub mod Flags
pub mod Worlds

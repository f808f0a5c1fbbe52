-- What a line says under the names that lines have.
pub mod Stops
pub mod Names
pub mod Shown
pub mod Steps
pub mod Same
pub mod Alike
pub mod Entries
pub mod Reading
pub mod Lines

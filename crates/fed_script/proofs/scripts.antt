-- A script that is read, and where reading stops.
pub mod Read
pub mod Stop

pub mod Cors
pub mod Read
pub mod Said

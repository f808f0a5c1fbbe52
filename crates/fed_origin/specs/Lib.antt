pub mod Host
pub mod Laws
pub mod Layout
pub mod Origin
pub mod Plain
pub mod Status
pub mod WebUrl
pub mod Words

-- URLs of the web.
pub mod Reads
pub mod Places
pub mod Segments
pub mod PlainHost
pub mod PlainPath
pub mod PlainUrl
pub mod Reference
pub mod Beside

-- A request that names its page has its cause.
pub mod Gets
pub mod Sent
pub mod Named

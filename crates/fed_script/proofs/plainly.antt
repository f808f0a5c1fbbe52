-- Lines as JSON writers give them.
pub mod Tokens
pub mod Entries
pub mod Events
pub mod Gets
pub mod Numbers

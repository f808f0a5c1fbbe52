-- Lines that are read back.
pub mod Events
pub mod Items
pub mod Cut
pub mod Stored
pub mod Walks
pub mod Members
pub mod Saves
pub mod Headers
pub mod Json

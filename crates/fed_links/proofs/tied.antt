-- As a call writes links, they stay those of the lists.
pub mod Slots
pub mod Changes
pub mod Growth

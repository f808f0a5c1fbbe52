-- The lists of a jar by parties, and the jar that they make.
pub mod Lists
pub mod Kept
pub mod Put
pub mod Drop
pub mod Store
pub mod Places
pub mod Limited

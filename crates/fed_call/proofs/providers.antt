-- How far the providers of a call have come.
pub mod Left
pub mod May

-- The text of a script, as this program writes it.
pub mod Texts

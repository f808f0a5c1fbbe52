-- A text by its front and what is left of it.
pub mod Fronts

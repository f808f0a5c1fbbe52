-- The labels of a text.
pub mod Label

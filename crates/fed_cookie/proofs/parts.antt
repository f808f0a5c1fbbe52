-- Parts of a field.
pub mod Lists
pub mod LineEnds
pub mod Parts

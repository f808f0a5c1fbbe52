-- Lists whose elements all are so stay such lists.
pub mod Sites

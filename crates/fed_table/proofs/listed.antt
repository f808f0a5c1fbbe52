-- Lists by number as lists by key.
pub mod Listed

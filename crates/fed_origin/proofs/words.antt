-- Words that are written and read.
pub mod Ascii
pub mod Agree
pub mod Text

-- Numbers that loops gather, and the part and the text that they make.
pub mod Members
pub mod Numbers
pub mod Parts
pub mod Lines

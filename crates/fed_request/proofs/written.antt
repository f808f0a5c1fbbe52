-- What is written piece after piece is what the definitions say.
pub mod Forms
pub mod Lines

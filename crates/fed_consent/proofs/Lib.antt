pub mod choice

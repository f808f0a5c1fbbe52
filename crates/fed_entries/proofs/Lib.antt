pub mod slots

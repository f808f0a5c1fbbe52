pub mod checked

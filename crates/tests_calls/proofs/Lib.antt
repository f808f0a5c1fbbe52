pub mod choices

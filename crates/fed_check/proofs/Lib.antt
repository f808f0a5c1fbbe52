pub mod checks

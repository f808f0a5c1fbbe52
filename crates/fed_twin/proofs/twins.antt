-- The test for twins.
pub mod Origins
pub mod Fault
pub mod Party
pub mod Test
pub mod Self
pub mod Named

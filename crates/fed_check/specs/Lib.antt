pub mod Members
pub mod Check
pub mod Stage
pub mod Laws

-- Names that texts are asked for under.
pub mod Written
pub mod Found

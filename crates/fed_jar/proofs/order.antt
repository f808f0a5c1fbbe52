-- Lists in order by a number.
pub mod Order
pub mod Longest

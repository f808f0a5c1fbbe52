-- A reply is checked where the fields that are asked for stand; what its value says is gathered member by member.
pub mod Fields
pub mod Said

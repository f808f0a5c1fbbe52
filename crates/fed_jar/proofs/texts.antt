-- Where the texts of a cookie stand.
pub mod Texts

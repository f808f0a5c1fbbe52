-- The ids and numbers under which permissions are kept, and the table by them.
pub mod Equal
pub mod Origins
pub mod Found
pub mod Listed
pub mod Removed
pub mod Tables

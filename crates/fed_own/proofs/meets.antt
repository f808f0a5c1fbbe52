-- Each own record meets all clauses, where the requests are readable.
pub mod Recorded
pub mod Carried
pub mod Meets
pub mod Whole
pub mod Short
pub mod Written

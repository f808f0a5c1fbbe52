-- What private clauses say, by the trace.
pub mod Cookies
pub mod Outcome
pub mod Sets
pub mod Permissions
pub mod Sight
pub mod Statuses

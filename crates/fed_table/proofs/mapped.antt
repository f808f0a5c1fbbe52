-- Lists of nodes as lists of their calls.
pub mod Maps
pub mod Times
pub mod Rest

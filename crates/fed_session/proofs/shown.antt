-- What a view shows.
pub mod View

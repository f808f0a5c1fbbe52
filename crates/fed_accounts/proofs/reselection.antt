-- The account that is reselected.
pub mod Within

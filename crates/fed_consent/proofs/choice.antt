-- The account that is chosen among those that several providers offer.
pub mod Taken
pub mod Chosen

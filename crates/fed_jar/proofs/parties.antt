-- Cookies by the party of their domain.
pub mod Parties

-- The longest rules that match.
pub mod Most
pub mod Packed
-- The lines of rules.
pub mod Texts

-- A permission comes by a token's row, and goes by the reply to a disconnect call.
pub mod Changes
pub mod Explained

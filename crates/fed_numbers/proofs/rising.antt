-- Numbers that rise, and where one stands among them.
pub mod Places
pub mod Rising
pub mod Distinct

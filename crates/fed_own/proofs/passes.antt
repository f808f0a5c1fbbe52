-- An audit of the own records finds nothing.
pub mod Turns
pub mod Form
pub mod Consent
pub mod Unanswered
pub mod Tokens

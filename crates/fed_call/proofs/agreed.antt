-- What the user agreed to.
pub mod Consent

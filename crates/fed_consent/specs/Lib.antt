pub mod Ask
pub mod Choice
pub mod Consent
pub mod Failures
pub mod Outcomes
pub mod Words

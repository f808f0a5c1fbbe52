pub mod Config
pub mod FirstReplies
pub mod Laws
pub mod Listed
pub mod Metadata
pub mod WellKnown
pub mod Rules

-- What a provider sees of what a call does, and of what stands.
pub mod Seen
pub mod Look

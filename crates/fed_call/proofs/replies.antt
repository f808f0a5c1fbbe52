-- What a call does at a reply of its only provider.
pub mod First
pub mod Listed

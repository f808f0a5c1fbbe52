-- What is read in a provider's files.
pub mod SiteText
pub mod LastEndpoint
pub mod Texts
pub mod Named

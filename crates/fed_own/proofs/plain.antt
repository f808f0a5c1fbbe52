-- The URLs and the texts of what is read of replies and lines are good.
pub mod Results
pub mod Web
pub mod Sites
pub mod Good
pub mod Json
pub mod Files
pub mod Accounts
pub mod Tokens
pub mod Lists
pub mod Base64

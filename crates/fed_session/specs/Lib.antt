pub mod Cookies
pub mod Links
pub mod Session
pub mod Account
pub mod StepParts
pub mod Tabs

pub mod Form
pub mod Request
pub mod Text

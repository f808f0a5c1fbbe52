pub mod seen
pub mod calls
pub mod worlds
pub mod others
pub mod twins
pub mod compared

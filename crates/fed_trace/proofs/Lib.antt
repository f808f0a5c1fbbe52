pub mod keyed
pub mod effects
pub mod calls
pub mod known
pub mod events
pub mod happens
pub mod runs

-- Scripts that come in pieces.
pub mod Cuts
pub mod Whole
pub mod Phases
pub mod Feeds
pub mod Finishes
pub mod Scripts

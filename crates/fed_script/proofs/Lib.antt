pub mod events
pub mod lines
pub mod says
pub mod plainly
pub mod scripts
pub mod halves
pub mod pieces

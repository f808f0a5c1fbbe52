-- What holds of a pending call since it began: no call asks twice.
pub mod Stood
pub mod Begun
pub mod Resumed
pub mod Taken
pub mod Asked

pub mod joined
pub mod gathered

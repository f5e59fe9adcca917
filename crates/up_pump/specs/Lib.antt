pub mod Circle
pub mod Pump
pub mod Pumps
pub mod Turns

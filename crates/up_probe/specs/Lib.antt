pub mod Chain
pub mod Event
pub mod Thrown

pub mod Attributes
pub mod PassOn

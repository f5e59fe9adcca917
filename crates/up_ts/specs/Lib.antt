pub mod Header
pub mod Payload
pub mod Refusal

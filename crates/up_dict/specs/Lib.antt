pub mod Edits
pub mod Held
pub mod Places
pub mod Reading
pub mod Refusal
pub mod Spelling

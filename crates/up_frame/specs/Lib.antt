pub mod Judging
pub mod Readers
pub mod Reading
pub mod Writing

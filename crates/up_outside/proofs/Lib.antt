pub mod FailureExamples
pub mod HeldFiles
pub mod Rooms
pub mod Told

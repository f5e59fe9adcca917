-- The outside that serves tests: a depot in memory, and its sources and sinks.
pub mod Failures
pub mod HeldFiles
pub mod MemDepot
pub mod MemSink
pub mod MemSource
pub mod ObjectCalls
pub mod Rooms

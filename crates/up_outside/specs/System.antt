-- The outside of a system: its files and streams.
pub mod Adapters

pub mod Chains
pub mod Pieces

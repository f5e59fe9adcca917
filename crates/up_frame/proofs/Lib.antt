pub mod AttrBytes
pub mod FedBytes
pub mod FoundFrames
pub mod GivenFrames
pub mod GoingOn
pub mod Parts
pub mod ReadAttributes
pub mod SetAttributes

pub mod Copies
pub mod Counts
pub mod Fed
pub mod Growths
pub mod PacketGrowths
pub mod StoreSteps
pub mod Trials
pub mod WholeFlows

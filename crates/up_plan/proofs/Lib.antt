pub mod Lanes
pub mod OneStrand
pub mod OneWorker
pub mod Places
pub mod PlanExamples

pub mod Changed
pub mod Found
pub mod InRun
pub mod ReadBack
pub mod RefusalExamples
pub mod Refused
pub mod SpellingExamples

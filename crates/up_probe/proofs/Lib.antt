mod ChainExamples
pub mod Passed

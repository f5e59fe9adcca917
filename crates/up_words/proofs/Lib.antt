pub mod WordExamples

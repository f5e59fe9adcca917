mod CircleExamples
pub mod FirstDue
pub mod InTurn

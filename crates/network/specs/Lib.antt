pub mod Limits
pub mod Pile
pub mod First
pub mod Meaning
pub mod Lawful
pub mod Refusals
pub mod Answers
pub mod Rows

pub mod Sounds
pub mod Again
pub mod Back
pub mod Lawfuls
pub mod Told

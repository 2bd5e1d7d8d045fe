pub mod Ring
pub mod Lawful

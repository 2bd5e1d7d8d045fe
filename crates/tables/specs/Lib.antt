pub mod Tables
pub mod Judge
pub mod Lawful
pub mod Source

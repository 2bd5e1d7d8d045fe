pub mod Numbers
pub mod Blocks
pub mod Tables
pub mod Over

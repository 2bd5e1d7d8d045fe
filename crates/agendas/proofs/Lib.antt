pub mod Rings
pub mod Piles
pub mod Steps

pub mod Piles
pub mod Firsts
pub mod Facts
pub mod Starts
pub mod Legs

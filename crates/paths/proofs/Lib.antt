pub mod Legs
mod Walking

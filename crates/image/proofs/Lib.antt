pub mod Marking
pub mod Spanning

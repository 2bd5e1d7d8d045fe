pub mod Marks
pub mod Nodes
pub mod Spans

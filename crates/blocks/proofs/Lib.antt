pub mod Sums
pub mod Fields
pub mod Frames
pub mod Parts
pub mod Chunked
pub mod Overs

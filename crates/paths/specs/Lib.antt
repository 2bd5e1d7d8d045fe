pub mod Paths
pub mod Asking
pub mod Walks

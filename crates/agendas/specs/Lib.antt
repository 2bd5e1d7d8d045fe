pub mod Bags
pub mod Queues
pub mod Timeds
pub mod Heaps
pub mod TimeFirsts

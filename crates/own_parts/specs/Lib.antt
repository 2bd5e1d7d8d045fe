pub mod Hops
pub mod HopsLemmas
pub mod LastIn

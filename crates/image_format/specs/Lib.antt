pub mod Layout
pub mod Judge
pub mod Decode
pub mod Encode
pub mod RoundTrip

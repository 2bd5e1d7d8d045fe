pub mod Pricing
pub mod Barring

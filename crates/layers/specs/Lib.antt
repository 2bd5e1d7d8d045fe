pub mod Refusals
pub mod Layer
pub mod Prices
pub mod Bars
pub mod LayerLawful
pub mod PricesLawful
pub mod BarsLawful

pub mod Ranges
pub mod Classes
pub mod Enumerations
pub mod Plans
pub mod Costs

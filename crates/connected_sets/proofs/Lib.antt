pub mod Extensions
pub mod Depth
pub mod GrowthLaws
pub mod GrownLaws
pub mod SetSteps
pub mod TopDigit

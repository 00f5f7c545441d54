pub mod BestWords
pub mod Listings
pub mod CostLaws

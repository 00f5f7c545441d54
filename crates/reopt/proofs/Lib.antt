pub mod OtherSets
pub mod WordOffers
pub mod Beginnings
pub mod FromScratch
pub mod Changes

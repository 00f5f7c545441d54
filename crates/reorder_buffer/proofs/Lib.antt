pub mod GroupLaws
mod Counts
mod Linking
pub mod Weights
pub mod RunLaws

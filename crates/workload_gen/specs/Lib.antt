pub mod Accepted
pub mod Draws
pub mod Sample
pub mod Values

pub mod Dpsize
pub mod DpsizeLeft
pub mod Dpsva
pub mod DpsvaLeft

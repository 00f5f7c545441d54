pub mod Neighbourhoods
pub mod RowLaws
pub mod PartLists
pub mod ScanLaws
pub mod ProbeSteps
pub mod DpsizeLaw
pub mod DpsizeSteps
mod DpsizeVectors

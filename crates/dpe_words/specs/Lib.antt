pub mod Command
pub mod Line
pub mod Usage
pub mod Values

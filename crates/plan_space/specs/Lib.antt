pub mod Classes
pub mod Thin
pub mod ZigZag
pub mod ZigZagLeft
pub mod LeastWords

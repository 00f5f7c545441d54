pub mod Groups
pub mod Buffers

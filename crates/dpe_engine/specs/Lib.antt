pub mod Working
pub mod Rounds
pub mod Engines
pub mod Running

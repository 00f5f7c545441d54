pub mod Certs
pub mod Entries
pub mod Json
pub mod Measures
pub mod Names
pub mod Reports
pub mod Texts

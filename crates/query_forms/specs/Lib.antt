pub mod Changes
pub mod Forms
pub mod Fractions
pub mod Laws
pub mod Rewriting
pub mod Tokens

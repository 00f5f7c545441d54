mod CertificateParts
mod KnownSides
pub mod CertificateLaws
mod Splits

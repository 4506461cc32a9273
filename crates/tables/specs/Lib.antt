pub mod Limits
pub mod Usages

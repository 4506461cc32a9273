pub mod Terms
pub mod Reduction

pub mod Chains
pub mod Shown

pub mod Triangular
pub mod Counting
pub mod Chains
pub mod Rules
pub mod Runs
pub mod Limited
pub mod Roomy

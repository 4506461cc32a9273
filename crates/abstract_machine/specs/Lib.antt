pub mod Pieces
pub mod States
pub mod Soundness
pub mod Configurations
pub mod Law

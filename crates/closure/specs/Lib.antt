pub mod Views
pub mod Stores
pub mod Soundness

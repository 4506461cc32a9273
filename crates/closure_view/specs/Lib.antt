pub mod Heads
pub mod Lent
pub mod Links
pub mod Views
pub mod Looks

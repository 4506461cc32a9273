pub mod Views
pub mod Steps
pub mod Links
pub mod Storing
pub mod Starts
pub mod Writes
pub mod Rules

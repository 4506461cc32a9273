pub mod Tables
pub mod Presented
pub mod Valid
pub mod Received
pub mod Moves
pub mod Steps
pub mod Positions

pub mod Faults
pub mod Outcomes
pub mod Meanings
pub mod Writing
pub mod Rules

pub mod Faults
pub mod Spell
pub mod Checks

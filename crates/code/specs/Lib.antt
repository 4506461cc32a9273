pub mod Scans
pub mod Verdicts
pub mod Layouts
pub mod Damage
pub mod Law

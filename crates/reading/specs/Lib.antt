pub mod RightSides
pub mod Frontiers
pub mod Counters
pub mod CountFaults
pub mod Counts

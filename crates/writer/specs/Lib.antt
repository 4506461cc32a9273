pub mod Heads
pub mod Pending
pub mod Sheets
pub mod Walks

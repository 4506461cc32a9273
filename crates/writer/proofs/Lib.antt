pub mod Walking
pub mod Sheets

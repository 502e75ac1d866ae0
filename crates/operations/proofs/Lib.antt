-- The laws of the table of open operations.
pub mod Ranges
pub mod Records
pub mod Searching
pub mod Keeping
pub mod Tags

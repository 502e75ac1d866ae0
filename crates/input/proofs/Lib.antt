-- The laws of an input's beginning.
pub mod Kept
pub mod Reading

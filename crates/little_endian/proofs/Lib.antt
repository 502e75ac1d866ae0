-- Laws of tests, and of numbers in bytes, each over the number of bytes.
pub mod Tests
pub mod Widths

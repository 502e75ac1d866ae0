-- What crosses the C boundary, and the statements of the theorems about it.
pub mod Boundary
pub mod Theorems

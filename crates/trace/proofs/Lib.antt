-- Laws that the functions' proofs cite, and the proofs of the theorems.
pub mod Entries
pub mod Shapes
pub mod Faults
pub mod Alike
pub mod Held
pub mod Theorems

-- Laws that the functions' proofs cite, and the proofs of the theorems.
pub mod Digits
pub mod Lines
pub mod Theorems

-- Laws that the functions' proofs cite, and the proofs of the theorems.
pub mod Theorems

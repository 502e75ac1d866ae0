-- Laws that the functions' proofs cite, and the proofs of the theorems.
pub mod Fitting
pub mod TwoBytes
pub mod Reading
pub mod Writing
pub mod Given
pub mod Cut
pub mod Theorems

-- Laws of memories, elements and effects, and the proofs of the theorems.
pub mod Memories
pub mod Elements
pub mod Reductions
pub mod TwosComplement
pub mod Commute
pub mod Theorems

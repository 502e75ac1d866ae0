-- What a run of a file promises, and the statements of the theorems about it. Acting serves inner functions alone, and need not be
-- believed.
pub mod Running
pub mod Acting
pub mod Theorems

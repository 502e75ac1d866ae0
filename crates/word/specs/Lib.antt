-- An answer as one number, and the statements of the theorems about it.
pub mod Word
pub mod Theorems

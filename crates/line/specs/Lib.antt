-- What the contracts of `line` cite, and the statements of the theorems about it.
pub mod Text
pub mod Theorems

-- What the contracts of `trace` cite, and the statements of the theorems about it.
pub mod File
pub mod Beginning
pub mod Theorems

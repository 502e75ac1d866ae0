-- What can be done to the two memories, and the statements of the theorems about it.
pub mod Memory
pub mod Access
pub mod Element
pub mod Effect
pub mod Theorems
pub mod Examples

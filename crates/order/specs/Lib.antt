-- Orders of actions, and the statements of the theorems about them.
pub mod Order
pub mod Theorems

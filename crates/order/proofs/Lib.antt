-- Laws of orders, and the proofs of the theorems.
pub mod Before
pub mod Delay
pub mod EitherWay
pub mod Confluence
pub mod Theorems

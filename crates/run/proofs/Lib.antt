-- Laws of events that act in order, of what they leave and of a run's answer, and the proofs of the theorems.
pub mod Items
pub mod Acted
pub mod Answers
pub mod Theorems

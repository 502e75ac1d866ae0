-- What the contracts of `judge` cite, and the statements of the theorems about it. What the judge keeps and does with it (AsLeft, Step)
-- need not be believed: by the theorems its answers are those of the rules.
pub mod AsLeft
pub mod Step
pub mod Beginnings
pub mod Theorems
pub mod Places

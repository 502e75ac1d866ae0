-- What the contracts of `operations` cite: how records stand in the words of two places, which of them clash with an event, and
-- which a wait keeps. That answers so found are those of the rules need not be believed: crate `judge` proves it.
pub mod Tag
pub mod Table
pub mod Clash
pub mod Waiting
pub mod Theorems

-- What the contracts of `parts` cite: which record an event has, and which groups and waits. That answers so found are those of
-- the rules need not be believed: crate `judge` proves it.
pub mod Parts

-- The rules, in document 01's words, and the statements of the theorems about them.
pub mod Search
pub mod Events
pub mod Faults
pub mod Closing
pub mod Orders
pub mod Clashes
pub mod Peak
pub mod Tests
pub mod Answers
pub mod Right
pub mod Outcomes
pub mod Waited
pub mod Theorems
pub mod Samples
pub mod Traces
pub mod Examples

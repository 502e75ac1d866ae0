-- What the contracts of `answer` cite, and the statements of the theorems about it.
pub mod Numbers
pub mod Table
pub mod Codes
pub mod Sheet
pub mod Theorems

-- What the contracts of `input` cite.
pub mod Held

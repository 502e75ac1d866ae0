-- What the contracts of `little_endian` cite.
pub mod Number

-- What the proofs of `read_sheet` and `read_full` cite.
pub mod Reading

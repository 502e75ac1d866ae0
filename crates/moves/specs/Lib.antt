-- What the contracts of `moves` cite: how one event after the other acts on what is lent. That this is what every permitted
-- order gives need not be believed: crate `run` proves it.
pub mod Acting

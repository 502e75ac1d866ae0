-- Laws of lent parts, of value bytes and of events that act.
pub mod Parts
pub mod Values
pub mod Acting

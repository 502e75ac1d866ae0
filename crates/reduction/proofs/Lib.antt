-- Laws of elements, over their width.
pub mod Elements

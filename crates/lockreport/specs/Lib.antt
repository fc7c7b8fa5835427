-- What contracts of this crate's functions cite.
pub mod Text

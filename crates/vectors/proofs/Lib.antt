-- What proofs of this crate's functions cite.
pub mod Laws

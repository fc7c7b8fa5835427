-- What proofs of this crate's functions cite, and of those that use them.
pub mod Digits

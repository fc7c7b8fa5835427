-- What proofs of this crate's functions cite; each file rests on those above it.
pub mod Paths
pub mod Scans
pub mod Beginnings
pub mod Answers

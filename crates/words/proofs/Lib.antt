-- Laws of sets in words; each function's proof is in a folder of its own.
pub mod Laws

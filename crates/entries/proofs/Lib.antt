-- Laws of entries and of what a search has found; each function's proof is in a folder of its own.
pub mod Laws

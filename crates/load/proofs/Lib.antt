-- Laws of a lock's depth and of counting; each function's proof is in a folder of its own.
pub mod Laws

-- Laws of the check's walk; each function's proof is in a folder of its own.
pub mod Accepted
pub mod Locking
pub mod Tasks
pub mod Laws
pub mod Walk

-- Laws of walks through schedules; each function's proof is in a folder of its own.
pub mod Tasks
pub mod Laws
pub mod Asking
pub mod Noting
pub mod Walk
pub mod Witness
pub mod Answers

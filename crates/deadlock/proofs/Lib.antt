-- Laws of chains, of a pattern's numbers, of verdicts and witnesses; each function's proof is in a folder of
-- its own.
pub mod Chains
pub mod Verdicts
pub mod Answers
pub mod Written
pub mod Delivered

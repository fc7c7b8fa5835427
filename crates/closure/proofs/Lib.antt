-- Laws of sets in words and of the closure call's answers; each function's proof is in a folder of its own.
pub mod Sets
pub mod Steps
pub mod Tops
pub mod Answers

-- Laws of the rows of events; each function's proof is in a folder of its own.
pub mod Rows

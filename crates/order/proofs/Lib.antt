-- Laws of an event's order; each function's proof is in a folder of its own.
pub mod Laws

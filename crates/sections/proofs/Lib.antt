-- Laws of what one event does to locks; each function's proof is in a folder of its own.
pub mod Fields
pub mod KindOf
pub mod Locks

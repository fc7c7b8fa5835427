-- Laws of the links, of the table of leading locks and of widened masks; each function's proof is in a folder
-- of its own.
pub mod Walks
pub mod Nested
pub mod Spreads
pub mod Leads
pub mod Blocks

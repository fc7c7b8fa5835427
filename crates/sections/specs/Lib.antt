-- The numbers of an event's kinds, and what is kept of critical sections; the kind itself is in `laws`.
pub mod Kinds
pub mod Kept

-- The table of held locks, what is decided of a lent pattern, and the witness call from the trace on; what
-- they speak of is defined in `model`.
pub mod Judged
pub mod Delivered

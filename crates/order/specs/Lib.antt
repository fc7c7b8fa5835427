-- What is kept of the earlier events for the order of the next one; that order itself is defined in `model`.
pub mod Kept

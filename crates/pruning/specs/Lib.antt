-- Definitions for the contracts of inner functions. No call's contract names one.
pub mod Linked
pub mod Candidates

-- Definitions for the contracts of inner functions. No call's contract names one.
pub mod Open
pub mod Delivered
pub mod Size

-- Definitions for the contracts of inner functions: what the tables of a walk hold, the shapes of answers,
-- frontiers, rows of bits, chains and their search, and sizes. No call's contract names one.
pub mod Sizes
pub mod EventKinds
pub mod Order
pub mod Walked
pub mod Answered
pub mod Frontier
pub mod BitRow
pub mod Chain
pub mod Walk
pub mod Returning

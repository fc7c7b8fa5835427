-- What the tables of a recording hold; the relations themselves are defined in `model`.
pub mod Tables

-- What the tables of the check hold; the check itself is defined in `model`.
pub mod Asked

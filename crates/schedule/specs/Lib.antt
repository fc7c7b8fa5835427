-- What the tables of a walk through a schedule hold, and what they tell; schedules are defined in `model`.
pub mod Listed
pub mod Next

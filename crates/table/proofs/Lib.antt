-- The laws of the table. Assumes nothing.
pub mod Stores
pub mod Words
pub mod Slots
pub mod PlacedLaws
pub mod Written
pub mod BoundLaws
-- what is read, step by step
pub mod ReadLaws
-- the way back from the bytes
mod Fronts
pub mod ReadBack
-- numbers as bytes
pub mod WordLists
-- what the stores of the code's writers leave
mod Stored
-- worked by computation
mod Examples

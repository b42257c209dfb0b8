-- The interval layer, in the order of document 01's "The interval stand-in": the definitions that contracts and laws cite. Assumes nothing.
pub mod Step
pub mod Interval
pub mod Nearest
pub mod Floor
pub mod Series
pub mod Encloses

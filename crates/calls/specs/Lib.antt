-- The definitions of the public calls, in the order of document 01. Assumes nothing.
-- refusals of doubles
pub mod Refusals
-- "Beside the walk"
pub mod Facet
pub mod Derivatives
pub mod Fast
-- the public calls, and document 01's marked values
pub mod Calls
pub mod Marked
-- what the layer's functions ask of their arguments
pub mod Fits

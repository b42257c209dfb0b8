-- The grade layer's definitions, in the order of document 01. Assumes nothing.
pub mod Grade
pub mod Exact
pub mod Pieces
pub mod Refusals
pub mod Certified
pub mod Intervals
pub mod InUse
pub mod FunctionsInUse
pub mod Fast
-- what the answers say of every rational point, the public call, and document 01's marked values
pub mod Holds
pub mod Said
pub mod Calls
pub mod Marked
-- what the layer's functions ask of their arguments, and what only proofs speak of
pub mod Fits
pub mod Extended

-- The gyroid layer's definitions, in the order of document 01. Assumes nothing.
-- the description, its refusals, and the leaf that it compiles to
pub mod Description
pub mod Refusals
pub mod Leaf
-- "Jet and residual"
pub mod Turn
pub mod Jet
pub mod Residual
pub mod Parts
pub mod Admitted
pub mod Settles
-- what the layer's functions ask of their arguments, and the constructors
pub mod Fits
pub mod Constructors
-- all of it at the arithmetic in use
pub mod InUse
pub mod FunctionsInUse

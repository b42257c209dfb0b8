-- The laws of the texts. Assumes nothing.
-- the listing of a table that was told of: what it is, and that it fits
pub mod FitLaws
-- how long a line is, and how much of a text decides
pub mod LengthLaws
-- what the functions' proofs cite
mod LineLaws
pub mod AppendLaws
mod DecimalLaws
mod ListingLaws
mod ChainLaws
mod CellsLaws
-- worked by computation
mod Examples

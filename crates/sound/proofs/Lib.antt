-- The laws of sound tables. Assumes nothing.
-- the slots that a chain visits
mod Pigeonhole
mod OnceLaws
-- a cell of a sound table
pub mod CellLaws
mod BoxLaws
-- the chain, followed from cell to cell
mod FollowLaws
pub mod ChainLaws
pub mod FreshLaws
-- worked by computation
mod Examples

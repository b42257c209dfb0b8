-- The laws of the grade layer. The layers above cite what is `pub` here; the rest serves its proofs. Assumes nothing.
-- an accepted level, and its entries' sizes
pub mod EntryLaws
pub mod Axes
pub mod Accepted
-- the level, the range, the piece: exact, over every rational point
pub mod LevelLaws
pub mod RangeLaws
pub mod PieceLaws
-- the same in intervals
pub mod IntervalLaws
pub mod LinearLaws
pub mod SlopeLaws
pub mod AlikeLaws
pub mod NarrowerLaws
pub mod TickPieceLaws
-- certification, planes, the grade axis
pub mod AxisLaws
pub mod CertifiedLaws
pub mod GradeAxisLaws
-- document 01's marked values
pub mod MarkedValues
mod Sizes
mod CornerLaws
mod MarginLaws
mod UnitLaws
-- worked by computation
mod Examples
